-- Laws of what is found in a list, and of groups that are made one after another.
use Rattle.std.proofs.Common.{◌≡◌, refl, subst, ℕ, zero, suc, ◌+◌, ◌<◌, ◌≤◌, ⊎_elim, true, false, List, [], ◌∷◌, ◌++◌, get_or, length, Some, None, ltb, ltb-true, arith}
use Rattle.std.specs.Prelude.{◌==◌, find}
use Rattle.std.specs.List.{AllWithin}
use Rattle.std.specs.List.Sorted.{IsNonDecreasingBy, IsPartitionPoint}
use Rattle.std.proofs.lemmas.Bool.{cases_lt, ltb-false}
use Rattle.std.proofs.lemmas.Bool.Decides.{nat_tests}
use Rattle.std.proofs.lemmas.List.{get_or_default}
use Rattle.plain_laws.proofs.Laws.{find_none, slice_get-push_before, slice_get-push_last}
use Rattle.feed_walks.specs.Rules.{IsPlace, group_at}

module _ {X : Type 0} (number : X → ℕ) (n : ℕ) where
  -- a number's place parts a list by whether the items have lesser ones
  pub parts_there : (xs : List X) (place : ℕ) → place ≤ length xs → IsPartitionPoint (λ x. ltb (number x) n ≡ true) (λ x. ltb (number x) n ≡ false) xs place → IsPlace number xs n place
  parts_there xs place within point = record { within = within; before = λ k d low lt. ltb-true _ _ (point.0 k d low lt); after = λ k d low lt. ltb-false _ _ (point.1 k d low lt) }

  -- in a list by numbers, the first item of a number stands at the number's place
  pub find_hit : (xs : List X) (place : ℕ) (d : X) → AllWithin (λ x. number x < n) xs 0 place → place < length xs → number (get_or xs place d) ≡ n → find (λ x. number x == n) xs ≡ Some (get_or xs place d)
  find_hit [] place d before lt same = absurd (omega arith)
  find_hit (x ∷ xs) zero d before lt same = let hit : (number x == n) ≡ true = grind (arith, nat_tests, same) in rw hit refl
  find_hit (x ∷ xs) (suc place) d before lt same =
      let first = before 0 x (omega arith) (omega arith) in
      let miss : (number x == n) ≡ false = grind (arith, nat_tests, first) in
      rw miss (find_hit xs place d (λ k e low less. before (suc k) e (omega arith) (omega arith)) (omega arith) same)

  -- and where another stands there, or none, there is none
  pub find_miss : (xs : List X) (place : ℕ) (e : X) → IsNonDecreasingBy number xs → IsPlace number xs n place → (place < length xs → number (get_or xs place e) ≡ n → ⊥) → find (λ x. number x == n) xs ≡ None
  find_miss xs place e rises is other = find_none (λ x. number x == n) xs (λ k d lt. subst (λ x. (number x == n) ≡ false) (get_or_default xs k e d lt) (apart (number (get_or xs k e)) (λ same. ⊎_elim
      (λ (before : k < place). let low = is.before k e (omega arith) before in omega arith)
      (λ (past : place ≤ k). other (omega arith) (let low = is.after place e (omega arith) (omega arith) in let up = rises place k e past lt in omega arith))
      (cases_lt k place))))
    where
      apart : (m : ℕ) → (m ≡ n → ⊥) → (m == n) ≡ false
      apart m never = grind (arith, nat_tests, never)

-- what holds of each of the groups so far, and of the next, holds of each with it
pub groups_more : {X : Type 0} (P : ℕ → List X → Type 0) (xs ys : List (List X)) (x : List X) (n : ℕ) → length xs ≡ n → ((i : ℕ) → i < n → P i (group_at xs i)) → ys ≡ xs ++ x ∷ [] → P n x → (i : ℕ) → i < n + 1 → P i (group_at ys i)
groups_more P xs ys x n long so_far push here i lt = ⊎_elim
    (λ (below : i < n). rw (push, slice_get-push_before xs x i (omega arith)) (so_far i below))
    (λ (past : n ≤ i). let same : n ≡ i = omega arith in rw (push, slice_get-push_last xs x i (omega arith)) (subst (λ k. P k x) same here))
    (cases_lt i n)
