-- Marks of the numbers that rows name.
use Rattle.std.proofs.Common.{◌≡◌, refl, ◌∙◌, ap, ℕ, ◌<◌, ◌≤◌, ◌⊎◌, inl, inr, Bool, true, false, ◌&&◌, ◌==◌, List, All, Option, Some, None, arith}
use Rattle.std.specs.Prelude.{nat_lt, option_map}
use Rattle.std.specs.List.{list_any}
use Rattle.std.specs.Option.{ForSome}
use Rattle.std.proofs.lemmas.Bool.{cases_lt}
use Rattle.std.proofs.lemmas.Bool.Decides.{nat_tests}
use Rattle.std.proofs.lemmas.List.Elements.{All-contains}
use Rattle.plain_laws.specs.Plain.{filled_and}
use Rattle.plain_laws.proofs.Laws.{list_any_same, list_any_tells, filled_and-true}
use Rattle.number_marks.specs.Marks.{is_marked, is_number}

-- the numbers that are marked are those that rows name in a column
pub marked_names : {R I : Type 0} (number : I → ℕ) (column : R → Option I) (rows all : List R) (marks : List Bool) (n : ℕ)
    → rows ≡ all → All (λ row. ForSome (column row) (λ x. number x < n)) all
    → ((i : ℕ) → is_marked marks i ≡ (nat_lt i n && list_any (λ row. is_number i (option_map number (column row))) rows))
    → (i : ℕ) → is_marked marks i ≡ list_any (λ row. filled_and (column row) (λ x. number x == i)) all
marked_names {R} {I} number column rows all marks n same within mark i =
    mark i ∙ rw same (ap (λ b. nat_lt i n && b) named ∙ inside (cases_lt i n))
  where
    test : R → Bool
    test row = filled_and (column row) (λ x. number x == i)

    field : (o : Option I) → is_number i (option_map number o) ≡ filled_and o (λ x. number x == i)
    field None = refl
    field (Some x) = refl

    named : list_any (λ row. is_number i (option_map number (column row))) all ≡ list_any test all
    named = list_any_same (λ row. is_number i (option_map number (column row))) test all (λ row. field (column row))

    past : n ≤ i → (b : Bool) → list_any test all ≡ b → b ≡ false
    past le false e = refl
    past le true e =
        let found = list_any_tells test all e in
        let filled = filled_and-true (column found.0) (λ x. number x == i) found.2 in
        let lt = All-contains (λ row. ForSome (column row) (λ x. number x < n)) all found.0 within found.1 filled.value filled.is in
        let hit = filled.passes in
        absurd (let e : number filled.value ≡ i = grind (arith, nat_tests, hit) in omega arith)

    inside : (i < n) ⊎ (n ≤ i) → (nat_lt i n && list_any test all) ≡ list_any test all
    inside (inl lt) = let e : nat_lt i n ≡ true = grind (arith, nat_tests) in rw e refl
    inside (inr le) = let e : nat_lt i n ≡ false = grind (arith, nat_tests) in rw (e, past le (list_any test all) refl) refl
