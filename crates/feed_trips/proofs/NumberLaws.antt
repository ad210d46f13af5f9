-- Numbers that are sorted and kept once each.
use Rattle.std.proofs.Common.{◌≡◌, ℕ, ◌<◌, List, length, get_or, take, IsPermutation, ℤ, int_cmp, arith}
use Rattle.std.specs.List.{dedup}
use Rattle.std.specs.List.Sorted.{IsSorted}
use Rattle.std.specs.Ordering.{int_eq, eq_by_cmp}
use Rattle.std.specs.declared.cmp.Ordering.TheVariants.{Less}
use Rattle.std.proofs.lemmas.Bool.Decides.{Decides-int_eq}
use Rattle.std.proofs.lemmas.Cmp.{int_cmp_total, int_eq_equiv}
use Rattle.std.proofs.lemmas.Int.{ints}
use Rattle.std.proofs.lemmas.List.{length-take-le, get_or-take, get_or_default}
use Rattle.std.proofs.lemmas.List.Kept.{IsStrictlySortedBy-dedup, Contains-dedup, Contains-from_dedup}
use Rattle.std.proofs.lemmas.List.Sorted.{Contains-permutation, IsPermutation-sym}
use Rattle.std.proofs.lemmas.Map.Keys.{Less-from_sorted}
use Rattle.plain_laws.specs.Plain.{IsAscending, IsPastLast}
use Rattle.feed_rows.specs.Shifts.{ascending_of}
use Rattle.feed_laws.proofs.ShiftLaws.{ascending_of_only}

-- numbers that are sorted and from which doubles are taken are those in ascending order
pub ascending_of_sorted : (numbers sorted : List ℤ) → IsPermutation numbers sorted → IsSorted int_cmp sorted → dedup int_eq sorted ≡ ascending_of numbers
ascending_of_sorted numbers sorted moved up =
    let strict = IsStrictlySortedBy-dedup int_cmp_total {E = int_eq} ties sorted up in
    ascending_of_only numbers (dedup int_eq sorted) (λ i j d lt within. Less-from_sorted int_cmp (dedup int_eq sorted) i j d strict lt within) (record {
      there = λ x at. Contains-dedup int_eq_equiv (λ a b e. (Decides-int_eq a b).0 e) sorted x (Contains-permutation numbers sorted x moved at);
      back = λ x at. Contains-permutation sorted numbers x (IsPermutation-sym numbers sorted moved) (Contains-from_dedup int_eq sorted x at);
    })
  where
    ties : (x y : ℤ) → int_eq x y ≡ eq_by_cmp int_cmp x y
    ties x y = grind (arith, ints)

-- the next number is greater than the last one before it
pub past_last : (numbers : List ℤ) (i : ℕ) (d : ℤ) → IsAscending int_cmp numbers → i < length numbers → IsPastLast int_cmp (take i numbers) (get_or numbers i d)
past_last numbers i d up lt k e is =
    let long = length-take-le i numbers (omega arith) in
    let before = get_or-take i numbers k e (omega arith) in
    let one : int_cmp (get_or numbers k d) (get_or numbers i d) ≡ Less = up k i d (omega arith) lt in
    rw (before, get_or_default numbers k e d (omega arith)) one
