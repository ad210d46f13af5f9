-- A loop that goes down through a part of a list and removes what fails a test.
use Rattle.std.proofs.Common.{◌≡◌, sym, ◌∙◌, ap, ℕ, suc, ◌+◌, ◌-◌, ◌<◌, ◌≤◌, Bool, true, false, cond, List, [], ◌∷◌, ◌++◌, length, get_or, take, drop, insert, filter, arith}
use Rattle.std.specs.Prelude.{slice_range}
use Rattle.std.specs.List.{remove}
use Rattle.std.proofs.lemmas.List.{append_assoc, drop_more, get_or_at, length-append, length-drop, length-take-le, take_more}
use Rattle.std.proofs.lemmas.List.Edits.{insert-append_right, length-between, remove-append_right, split_between}
use Rattle.label_bag.proofs.BagLaws.{filter-long}

module _ {X : Type 0} (test : X → Bool) (xs : List X) (end : ℕ) where
  -- what is left where all from a place on was looked at
  abbrev pub thinned : ℕ → List X
  thinned place = take place xs ++ (filter test (slice_range xs place end) ++ drop end xs)

  -- a part begins with its first
  slice-cons : (n : ℕ) (d : X) → n < end → n < length xs → slice_range xs n end ≡ get_or xs n d ∷ slice_range xs (n + 1) end
  slice-cons n d before within =
      let one : end - n ≡ suc (end - (n + 1)) = omega arith in
      ap (λ zs. take (end - n) zs) (drop_more xs n d within) ∙ ap (λ m. take m (get_or xs n d ∷ drop (n + 1) xs)) one

  module _ (n place : ℕ) (x : X) (next : place ≡ n + 1) (before : n < end) (within : n < length xs) where
    abbrev here : X
    here = get_or xs n x

    abbrev later : List X
    later = filter test (slice_range xs (n + 1) end) ++ drop end xs

    short : length (take n xs) ≡ n
    short = length-take-le n xs (omega arith)

    -- with the item at the place itself set apart
    apart : thinned place ≡ take n xs ++ here ∷ later
    apart = ap thinned next ∙ ap (λ zs. zs ++ later) (take_more xs n x within) ∙ append_assoc (take n xs) (here ∷ []) later

    same_item : get_or (thinned place) n x ≡ here
    same_item = ap (λ zs. get_or zs n x) apart ∙ get_or_at (take n xs) here later x n short

    -- the item at the place passes, and stays
    pub thinned-kept : (items : List X) → items ≡ thinned place → x ≡ get_or items n x → test x ≡ true → items ≡ thinned n
    thinned-kept items is at passes =
        let same : x ≡ here = at ∙ ap (λ zs. get_or zs n x) is ∙ same_item in
        let keeps : filter test (slice_range xs n end) ≡ here ∷ filter test (slice_range xs (n + 1) end) =
        ap (filter test) (slice-cons n x before within) ∙ ap (λ b. cond b (here ∷ filter test (slice_range xs (n + 1) end)) (filter test (slice_range xs (n + 1) end))) (sym (ap test same) ∙ passes) in
        is ∙ apart ∙ ap (λ zs. take n xs ++ (zs ++ drop end xs)) (sym keeps)

    -- it fails, and is removed
    pub thinned-removed : (items : List X) → items ≡ thinned place → x ≡ get_or items n x → test x ≡ false → remove items n ≡ thinned n
    thinned-removed items is at fails =
        let same : x ≡ here = at ∙ ap (λ zs. get_or zs n x) is ∙ same_item in
        let drops : filter test (slice_range xs n end) ≡ filter test (slice_range xs (n + 1) end) =
        ap (filter test) (slice-cons n x before within) ∙ ap (λ b. cond b (here ∷ filter test (slice_range xs (n + 1) end)) (filter test (slice_range xs (n + 1) end))) (sym (ap test same) ∙ fails) in
        let none : n - n ≡ 0 = omega arith in
        ap (λ zs. remove zs n) (is ∙ apart) ∙ remove-append_right (take n xs) (here ∷ later) n n short (omega arith)
        ∙ ap (λ m. take n xs ++ remove (here ∷ later) m) none ∙ ap (λ zs. take n xs ++ (zs ++ drop end xs)) (sym drops)

  -- where as many are left as there were, all are
  pub thinned-whole : (start : ℕ) → start ≤ end → end ≤ length xs → length xs ≤ length (thinned start) → thinned start ≡ xs
  thinned-whole start order bound long =
      let left : length (slice_range xs start end) ≤ length (filter test (slice_range xs start end)) =
      omega (
        arith,
        long,
        length-append (take start xs) (filter test (slice_range xs start end) ++ drop end xs),
        length-append (filter test (slice_range xs start end)) (drop end xs),
        length-take-le start xs (omega arith),
        length-drop end xs,
        length-between xs start end bound,
      ) in
      ap (λ zs. take start xs ++ (zs ++ drop end xs)) (filter-long test _ left) ∙ sym (split_between xs start end order)

  -- as many places are left before it
  pub thinned-long : (start : ℕ) → start ≤ length xs → start ≤ length (thinned start)
  thinned-long start bound = omega (arith, length-append (take start xs) (filter test (slice_range xs start end) ++ drop end xs), length-take-le start xs bound)

  -- one set in where the part begins
  pub insert-thinned : (start : ℕ) (y : X) → start ≤ length xs → insert (thinned start) start y ≡ take start xs ++ y ∷ (filter test (slice_range xs start end) ++ drop end xs)
  insert-thinned start y bound =
      let none : start - start ≡ 0 = omega arith in
      insert-append_right (take start xs) (filter test (slice_range xs start end) ++ drop end xs) start start y (length-take-le start xs bound) (omega arith)
      ∙ ap (λ m. take start xs ++ insert (filter test (slice_range xs start end) ++ drop end xs) m y) none
