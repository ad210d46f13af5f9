-- Stops that are sorted by their numbers, each once.
use Rattle.std.proofs.Common.{◌≡◌, sym, ap, ℕ, ◌<◌, true, List, arith}
use Rattle.std.specs.Prelude.{◌==◌, Bool}
use Rattle.std.specs.Cmp.{IsEquivalence}
use Rattle.std.specs.List.{dedup}
use Rattle.std.specs.List.Sorted.{IsPermutation, IsSortedByKey, IsStrictlySortedBy}
use Rattle.std.specs.Ordering.{nat_cmp, eq_by_cmp}
use Rattle.std.specs.declared.cmp.Ordering.TheVariants.{Less}
use Rattle.std.proofs.lemmas.Bool.Decides.{nat_tests}
use Rattle.std.proofs.lemmas.Cmp.{nat_cmp_total, nat_eq_equiv, on_total, ranked}
use Rattle.std.proofs.lemmas.List.Kept.{Contains-dedup, IsStrictlySortedBy-dedup}
use Rattle.std.proofs.lemmas.List.Sorted.{Contains-permutation}
use Rattle.std.proofs.lemmas.Map.Keys.{Less-from_sorted}
use Rattle.transit_base.specs.declared.numbers.StopId.{StopId}
use Rattle.feed_walks.specs.Near.{IsInOrder}

-- the same stop
abbrev pub same : StopId → StopId → Bool
same x y = x.0 == y.0

pub same_stop : (x y : StopId) → (x.0 == y.0) ≡ true → x ≡ y
same_stop x y e = let number : x.0 ≡ y.0 = grind (arith, nat_tests, e) in ap (λ n. record { 0 = n }) number

same_equivalence : IsEquivalence same
same_equivalence = record { refl = λ x. nat_eq_equiv.refl x.0; symm = λ x y. nat_eq_equiv.symm x.0 y.0; congr = λ x y z. nat_eq_equiv.congr x.0 y.0 z.0 }

ties : (m n : ℕ) → (m == n) ≡ eq_by_cmp nat_cmp m n
ties m n = grind (arith, nat_tests)

less : (m n : ℕ) → nat_cmp m n ≡ Less → m < n
less m n e = ranked m n Less (sym e)

-- what a sort by the numbers leaves, and then a `dedup`
pub in_order : (old moved new : List StopId) → IsPermutation old moved → IsSortedByKey (λ (s : StopId). s.0) nat_cmp moved → new ≡ dedup same moved → IsInOrder old new
in_order old moved new turned sorted is =
    record {
      ascends = λ i j d lt within. less _ _ (Less-from_sorted (λ x y. nat_cmp x.0 y.0) new i j d strict lt within);
      keeps = λ stop at. rw is (Contains-dedup same_equivalence same_stop moved stop (Contains-permutation old moved stop turned at));
    }
  where
    strict : IsStrictlySortedBy (λ (x y : StopId). nat_cmp x.0 y.0) new
    strict = rw is (IsStrictlySortedBy-dedup (on_total (λ (s : StopId). s.0) nat_cmp_total) (λ x y. ties x.0 y.0) moved sorted)
