-- Names by their places, as a set of them has them.
use Rattle.std.proofs.Common.{◌≡◌, refl, sym, subst, ◌∙◌, ap, ℕ, ◌+◌, ◌<◌, List, [], ◌∷◌, ◌++◌, take, length, map, get_or, Bool, true, false, Option, Some, None, Bor, is_some, position, bytes_eq, ◌≤◌, ◌-◌, ◌^◌, ◌&&◌, arith}
use Rattle.std.specs.Prelude.{if◌then◌else◌, is_none}
use Rattle.std.specs.List.{All, list_any}
use Rattle.indexmap.specs.IndexSet.{insert_key}
use Rattle.std.proofs.lemmas.List.{length-map, length-append, get_or-map, map_push, take_more}
use Rattle.std.proofs.lemmas.List.Elements.{All-push}
use Rattle.plain_laws.specs.Plain.{find_below}
use Rattle.plain_laws.proofs.Laws.{find_below-same, position_below, any_placed}
use Rattle.feed_faults.specs.Records.{is_filled}
use Rattle.feed_faults.specs.AcceptedFeed.{place_of_name, with_name}
use Rattle.feed_build.specs.NameNumbers.{IsNumbering, IsShort}

-- the names of a set
abbrev names_of : List (Bor (List ℕ)) → List (List ℕ)
names_of set = map (λ k. k.now) set

-- the place of a name
pub place_is : (set : List (Bor (List ℕ))) (name : Bor (List ℕ)) → position (λ k. bytes_eq name.now k.now) set ≡ place_of_name (names_of set) name.now
unfolding place_of_name
place_is set name =
    position_below (λ k. bytes_eq name.now k.now) set name
    ∙ find_below-same (λ i. bytes_eq name.now (get_or set i name).now) (λ i. bytes_eq name.now (get_or (names_of set) i [])) (length set) (λ i lt. ap (bytes_eq name.now) (sym (get_or-map (λ k. k.now) set i name [] lt)))
    ∙ ap (λ n. find_below n (λ i. bytes_eq name.now (get_or (names_of set) i []))) (sym (length-map set (λ k. k.now)))

-- the names with one more, where it is new
pub name_added : (set : List (Bor (List ℕ))) (name : Bor (List ℕ)) → is_filled name.now ≡ true →
    names_of (insert_key (λ x y. bytes_eq x.now y.now) set name) ≡ with_name (names_of set) name.now
unfolding with_name
name_added set name filled = step (position test set) refl
  where
    test : Bor (List ℕ) → Bool
    test k = bytes_eq name.now k.now

    step : (found : Option ℕ) → position test set ≡ found → names_of (insert_key (λ x y. bytes_eq x.now y.now) set name) ≡ with_name (names_of set) name.now
    step (Some i) e =
        let any : list_any test set ≡ true = any_placed test set name ∙ ap is_some e in
        let place : place_of_name (names_of set) name.now ≡ Some i = sym (place_is set name) ∙ e in
        rw (any, filled, place) refl
    step None e =
        let any : list_any test set ≡ false = any_placed test set name ∙ ap is_some e in
        let place : place_of_name (names_of set) name.now ≡ None = sym (place_is set name) ∙ e in
        rw (any, filled, place) (map_push (λ k. k.now) set name)

-- names with one more: what is so of them with it at their end and without it is so of them
with_cases : (P : List (List ℕ) → Type 0) (names : List (List ℕ)) (name : List ℕ)
    → P names → (is_filled name ≡ true → P (names ++ name ∷ [])) → P (with_name names name)
unfolding with_name
with_cases P names name without added = step (is_filled name) refl (is_none (place_of_name names name))
  where
    step : (filled : Bool) → is_filled name ≡ filled → (new : Bool) → P (if filled && new then names ++ name ∷ [] else names)
    step true is true = added is
    step true is false = without
    step false is new = without

module _ (names : List (List ℕ)) (name : List ℕ) where
  pub with_unfilled : is_filled name ≡ false → with_name names name ≡ names
  unfolding with_name
  with_unfilled e = rw e refl

  pub with_grows : length (with_name names name) ≤ length names + 1
  with_grows =
      with_cases (λ more. length more ≤ length names + 1) names name (omega arith)
      (λ filled. let size = length-append names (name ∷ []) in omega (arith, size))

  pub with_numbering : IsNumbering names → IsShort name → length names < 2 ^ 32 - 1 → IsNumbering (with_name names name)
  with_numbering numbering short few = with_cases IsNumbering names name numbering (λ filled. record {
    few = let size = length-append names (name ∷ []) in omega (arith, size, few);
    filled = All-push (λ n. 1 ≤ length n) names name numbering.filled (some name filled);
    short = All-push (λ n. length n ≤ 255) names name numbering.short (short filled);
  })
    where
      some : (text : List ℕ) → is_filled text ≡ true → 1 ≤ length text
      some [] e = absurd (cc)
      some (c ∷ cs) e = omega arith

-- what is so of each name is so of the one at a place
pub name_at : (P : List ℕ → Type 0) (set : List (Bor (List ℕ))) → All P (names_of set) → (place : ℕ) (d : Bor (List ℕ)) → place < length set → P (get_or set place d).now
name_at P set all place d lt =
    subst P (get_or-map (λ k. k.now) set place d [] lt) (all place [] (rw (length-map set (λ k. k.now)) lt))

-- the names up to a place and the one at it
pub name_taken : (set : List (Bor (List ℕ))) (place : ℕ) (d : Bor (List ℕ)) → place < length set → take (place + 1) (names_of set) ≡ take place (names_of set) ++ (get_or set place d).now ∷ []
name_taken set place d lt =
    take_more (names_of set) place [] (rw (length-map set (λ k. k.now)) lt) ∙ ap (λ n. take place (names_of set) ++ n ∷ []) (get_or-map (λ k. k.now) set place d [] lt)
