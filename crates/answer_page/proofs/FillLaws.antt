-- Texts of items, one behind another, as loops write them.
use Rattle.std.proofs.Common.{◌≡◌, sym, subst, ◌∙◌, ap, arith, ℕ, ◌+◌, ◌<◌, ◌≤◌, ◌==◌, Bool, true, false, if◌then◌else◌, List, [], ◌∷◌, ◌++◌, length, get_or, drop, append_assoc, Option, Some}
use Rattle.std.specs.Prelude.{slice_get}
use Rattle.std.specs.Option.{option_map_or}
use Rattle.std.proofs.lemmas.List.{append-nil, at_drop_more, drop_all, get_or_default}
use Rattle.std.proofs.lemmas.Option.{slice_get-get_or}
use Rattle.answer_page.specs.Html.{next_after}
use Rattle.answer_page.specs.Threads.{threaded}

module _ {S X : Type 0} (f : S → X → List ℕ) (next : S → X → S) where
  -- one item more
  pub item_more : (page : List ℕ) (xs : List X) (s : S) (i : ℕ) (d : X) → i < length xs
      → (page ++ f s (get_or xs i d)) ++ threaded f next (next s (get_or xs i d)) (drop (i + 1) xs) ≡ page ++ threaded f next s (drop i xs)
  unfolding threaded
  item_more page xs s i d inside =
      append_assoc page _ _ ∙ ap (λ rest. page ++ rest) (sym (at_drop_more (λ left. threaded f next s left) xs i d inside))

  -- the same where the item is told by itself, as a loop meets it
  pub item_kept : (page after whole : List ℕ) (xs : List X) (s t : S) (i : ℕ) (x : X) → i < length xs → x ≡ get_or xs i x → after ≡ page ++ f s x → t ≡ next s x
      → page ++ threaded f next s (drop i xs) ≡ whole → after ++ threaded f next t (drop (i + 1) xs) ≡ whole
  item_kept page after whole xs s t i x inside is written told kept =
      rw (written, told)
      (subst (λ y. (page ++ f s y) ++ threaded f next (next s y) (drop (i + 1) xs) ≡ page ++ threaded f next s (drop i xs)) (sym is) (item_more page xs s i x inside) ∙ kept)

  -- the same where the item is told by its place
  pub item_placed : (page after whole : List ℕ) (xs : List X) (s t : S) (i : ℕ) → i < length xs
      → after ≡ page ++ option_map_or (f s) (slice_get xs i) [] → ((x : X) → t ≡ next s x)
      → page ++ threaded f next s (drop i xs) ≡ whole → after ++ threaded f next t (drop (i + 1) xs) ≡ whole
  item_placed page after whole [] s t i inside written told kept = absurd (omega arith)
  item_placed page after whole (x ∷ xs) s t i inside written told kept =
      let item = get_or (x ∷ xs) i x in
      let there : slice_get (x ∷ xs) i ≡ Some item = slice_get-get_or (x ∷ xs) i x inside in
      item_kept page after whole (x ∷ xs) s t i item inside (get_or_default (x ∷ xs) i x item inside)
      (written ∙ ap (λ (o : Option X). page ++ option_map_or (f s) o []) there) (told item) kept

  -- none is left at the end
  pub none_left : (page : List ℕ) (xs : List X) (s : S) (i : ℕ) → length xs ≤ i → page ++ threaded f next s (drop i xs) ≡ page
  unfolding threaded
  none_left page xs s i past = rw (drop_all i xs past) (append-nil page)

-- no more values are passed than bytes
pub next_within : (byte next i : ℕ) → next ≤ i → next_after byte next ≤ i + 1
next_within byte next i le = by (byte == 36)
  where
    by : (place : Bool) → (if place then next + 1 else next) ≤ i + 1
    by true = omega arith
    by false = omega arith
