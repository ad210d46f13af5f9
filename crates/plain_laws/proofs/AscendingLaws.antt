-- Lists whose items ascend: one more item, and what is at most an item.
use Rattle.std.proofs.Common.{◌≡◌, ℕ, ◌-◌, ◌<◌, ◌≤◌, ◌⊎◌, inl, inr, List, length, get_or, arith, [], ◌∷◌, ◌++◌, refl, true, AllPairs, ℤ, ◌<ℤ◌, int_lt, int_cmp, Bool, false}
use Rattle.std.specs.declared.cmp.Ordering.{Ordering}
use Rattle.std.specs.declared.cmp.Ordering.TheVariants.{Less}
use Rattle.std.specs.Cmp.{IsTotalOrder}
use Rattle.std.proofs.lemmas.Bool.{cases_lt}
use Rattle.plain_laws.specs.Ascending.{IsAscending, IsPastLast}
use Rattle.std.proofs.lemmas.List.Quantifiers.{all_pairs_push}
use Rattle.std.proofs.lemmas.Int.{ints}
use Rattle.plain_laws.proofs.NumberLaws.{int_lt-true}

-- what is greater than the last item is greater than each
pub past_each : {X : Type 0} (cmp : X → X → Ordering) → IsTotalOrder cmp → (xs : List X) (x : X) → IsAscending cmp xs → IsPastLast cmp xs x → (k : ℕ) (d : X) → k < length xs → cmp (get_or xs k d) x ≡ Less
past_each {X} cmp o xs x rises past k d lt = step (cases_lt k (length xs - 1))
  where
    step : (k < length xs - 1) ⊎ (length xs - 1 ≤ k) → cmp (get_or xs k d) x ≡ Less
    step (inl before) = o.trans _ _ _ (rises k (length xs - 1) d before (omega arith)) (past (length xs - 1) d (omega arith))
    step (inr last) = past k d (omega arith)

-- one more item, greater than the last
pub ascending-push : {X : Type 0} (cmp : X → X → Ordering) → IsTotalOrder cmp → (xs : List X) (x : X) → IsAscending cmp xs → IsPastLast cmp xs x → IsAscending cmp (xs ++ x ∷ [])
ascending-push cmp o xs x rises past = all_pairs_push (λ a b. cmp a b ≡ Less) xs x rises (past_each cmp o xs x rises past)

-- to ascend by the relation and by the order of numbers is one
pub ascending_from_strict : (zs : List ℤ) → AllPairs ◌<ℤ◌ zs → IsAscending int_cmp zs
ascending_from_strict zs ups = λ i j d lt within. tell (get_or zs i d) (get_or zs j d) (ups i j d lt within)
  where
    tell : (a b : ℤ) → a <ℤ b → int_cmp a b ≡ Less
    tell a b lt = let e : int_lt a b ≡ true = grind (arith, ints) in rw e refl

pub strict_from_ascending : (zs : List ℤ) → IsAscending int_cmp zs → AllPairs ◌<ℤ◌ zs
strict_from_ascending zs ups = λ i j d lt within. tell (get_or zs i d) (get_or zs j d) (ups i j d lt within)
  where
    tell : (a b : ℤ) → int_cmp a b ≡ Less → a <ℤ b
    tell a b e = step (int_lt a b) refl (int_lt b a) refl
      where
        step : (s : Bool) → int_lt a b ≡ s → (t : Bool) → int_lt b a ≡ t → a <ℤ b
        step true p t q = int_lt-true a b p
        step false p true q = absurd (let no = rw (p, q) at e in cc)
        step false p false q = absurd (let no = rw (p, q) at e in cc)
