-- Lines that are cut give their fields back, and texts their lines.
use Rattle.std.proofs.Common.{◌≡◌, refl, sym, ◌∙◌, ap, ℕ, ◌-◌, Bool, false, ◌||◌, ◌==◌, List, [], ◌∷◌, ◌++◌, length, map, take, arith, append_assoc}
use Rattle.std.specs.Prelude.{All}
use Rattle.std.specs.List.{list_any, slice_split, concat}
use Rattle.std.proofs.lemmas.List.{length-append, append-nil}
use Rattle.std.proofs.lemmas.List.Folds.{list_any-append}
use Rattle.std.proofs.lemmas.List.Splits.{slice_split_at, slice_split_none}
use Rattle.feed_rows.specs.Lines.{line, fields_text}
use Rattle.plain_laws.proofs.Laws.{none_holds, or_false}
use Rattle.line_cuts.specs.Cuts.{line_parts, lines_in, fields_in}
use Rattle.ticket_read.proofs.PlainTexts.{is_end, IsPlain, ArePlain}

-- each field behind a tab
abbrev pub tabbed : List (List ℕ) → List ℕ
tabbed [] = []
tabbed (text ∷ texts) = 9 ∷ text ++ tabbed texts

-- a line without its line feed
abbrev pub body : List ℕ → List (List ℕ) → List ℕ
body word texts = word ++ tabbed texts

fields_text-tabbed : (texts : List (List ℕ)) → fields_text texts ≡ tabbed texts ++ 10 ∷ []
fields_text-tabbed [] = refl
fields_text-tabbed (text ∷ texts) =
    ap (λ (rest : List ℕ). 9 ∷ text ++ rest) (fields_text-tabbed texts) ∙ ap (λ (rest : List ℕ). 9 ∷ rest) (sym (append_assoc text (tabbed texts) (10 ∷ [])))

pub line-body : (word : List ℕ) (texts : List (List ℕ)) → line word texts ≡ body word texts ++ 10 ∷ []
line-body word texts =
    ap (λ (rest : List ℕ). word ++ rest) (fields_text-tabbed texts) ∙ sym (append_assoc word (tabbed texts) (10 ∷ []))

no_tab : (text : List ℕ) → IsPlain text → All (λ b. (b == 9) ≡ false) text
no_tab text plain k d lt = (or_false _ _ (none_holds is_end text k d plain.none lt)).0

-- the fields of a line without its line feed
pub fields_in-body : (word : List ℕ) (texts : List (List ℕ)) → IsPlain word → ArePlain texts → fields_in (body word texts) ≡ word ∷ texts
fields_in-body word [] plain all = ap (slice_split (λ b. b == 9)) (append-nil word) ∙ slice_split_none (λ b. b == 9) word (no_tab word plain)
fields_in-body word (text ∷ texts) plain all =
    slice_split_at (λ b. b == 9) word 9 (body text texts) (no_tab word plain) refl ∙ ap (λ (rest : List (List ℕ)). word ∷ rest) (fields_in-body text texts all.0 all.1)

-- no line feed stands in the text
abbrev pub IsUnbroken : List ℕ → Type 0
IsUnbroken text = list_any (λ b. b == 10) text ≡ false

or_both : (a b : Bool) → a ≡ false → b ≡ false → (a || b) ≡ false
or_both a b e f = rw (e, f) refl

plain_unbroken : (text : List ℕ) → IsPlain text → IsUnbroken text
plain_unbroken [] plain = refl
plain_unbroken (b ∷ bs) plain =
    let here = or_false (is_end b) (list_any is_end bs) plain.none in
    or_both (b == 10) (list_any (λ c. c == 10) bs) (or_false (b == 9) (b == 10) here.0).1 (plain_unbroken bs (record { none = here.1 }))

unbroken_append : (xs ys : List ℕ) → IsUnbroken xs → IsUnbroken ys → IsUnbroken (xs ++ ys)
unbroken_append xs ys one other = list_any-append (λ b. b == 10) xs ys ∙ or_both _ _ one other

tabbed_unbroken : (texts : List (List ℕ)) → ArePlain texts → IsUnbroken (tabbed texts)
tabbed_unbroken [] all = refl
tabbed_unbroken (text ∷ texts) all = unbroken_append text (tabbed texts) (plain_unbroken text all.0) (tabbed_unbroken texts all.1)

pub body_unbroken : (word : List ℕ) (texts : List (List ℕ)) → IsPlain word → ArePlain texts → IsUnbroken (body word texts)
body_unbroken word texts plain all = unbroken_append word (tabbed texts) (plain_unbroken word plain) (tabbed_unbroken texts all)

-- ---- texts

-- with its line feed
abbrev pub ended : List ℕ → List ℕ
ended text = text ++ 10 ∷ []

-- no line feed stands in any of these
abbrev pub AreUnbroken : List (List ℕ) → Type 0
AreUnbroken [] = Unit {0}
AreUnbroken (text ∷ texts) = IsUnbroken text × AreUnbroken texts

pub unbroken_both : (xs ys : List (List ℕ)) → AreUnbroken xs → AreUnbroken ys → AreUnbroken (xs ++ ys)
unbroken_both [] ys one other = other
unbroken_both (x ∷ xs) ys one other = (one.0, unbroken_both xs ys one.1 other)

line_parts-joined : (bodies : List (List ℕ)) → AreUnbroken bodies → line_parts (concat (map ended bodies)) ≡ bodies ++ [] ∷ []
line_parts-joined [] all = refl
line_parts-joined (text ∷ texts) all =
    let rest = concat (map ended texts) in
    ap line_parts (append_assoc text (10 ∷ []) rest)
    ∙ slice_split_at (λ b. b == 10) text 10 rest (λ k d lt. none_holds (λ b. b == 10) text k d all.0 lt) refl
    ∙ ap (λ (parts : List (List ℕ)). text ∷ parts) (line_parts-joined texts all.1)

-- the lines of a text
pub lines_in-joined : (bodies : List (List ℕ)) → AreUnbroken bodies → lines_in (concat (map ended bodies)) ≡ bodies
lines_in-joined bodies all = ap (λ (parts : List (List ℕ)). take (length parts - 1) parts) (line_parts-joined bodies all) ∙ front bodies
  where
    front : (xs : List (List ℕ)) → take (length (xs ++ [] ∷ []) - 1) (xs ++ [] ∷ []) ≡ xs
    front xs =
        let long : length (xs ++ [] ∷ []) - 1 ≡ length xs = omega (arith, length-append xs ([] ∷ [])) in
        rw long (all_of xs)
      where
        all_of : (ys : List (List ℕ)) → take (length ys) (ys ++ [] ∷ []) ≡ ys
        all_of [] = refl
        all_of (y ∷ ys) = ap (λ (zs : List (List ℕ)). y ∷ zs) (all_of ys)
