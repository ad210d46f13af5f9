-- What a write that lowers an amount does to a list, and what is least in lists that one amount fills.
use Rattle.std.proofs.Common.{◌≡◌, sym, ◌∙◌, ap, subst, ℕ, ◌<◌, ◌≤◌, ◌⊎◌, inl, inr, List, length, get_or, replicate, get_or-set_other, get_or-set_same, arith, to_z, of_z, w64, SFits}
use Rattle.std.specs.Prelude.{ℤ, ◌+ℤ◌, ◌≤ℤ◌, slice_set}
use Rattle.std.specs.Int.{int_min}
use Rattle.std.proofs.lemmas.Int.{ints, to_z-of_z}
use Rattle.std.proofs.lemmas.Bool.{cases_eq, cases_lt}
use Rattle.std.proofs.lemmas.List.{get_or-replicate, get_or_past, length-replicate}
use mir.Syntax.{w128}
use Rattle.fare_bounds.specs.Amounts.{never, amount_at, IsAmount, IsLowered}

-- the lesser of two is at most each
pub min_first : (x y : ℤ) → int_min x y ≤ℤ x
min_first x y = grind (arith, ints)

pub min_second : (x y : ℤ) → int_min x y ≤ℤ y
min_second x y = grind (arith, ints)

-- and no lower than both
pub min_low : (x y z : ℤ) → z ≤ℤ x → z ≤ℤ y → z ≤ℤ int_min x y
min_low x y z p q = grind (arith, ints, p, q)

pub le_trans : (x y z : ℤ) → x ≤ℤ y → y ≤ℤ z → x ≤ℤ z
le_trans x y z p q = omega (arith, ints, p, q)

le_refl : (x : ℤ) → x ≤ℤ x
le_refl x = omega (arith, ints)

-- the lesser of the amount there and this one is put there
module _ (xs : List ℤ) (place : ℕ) (amount : ℤ) (lt : place < length xs) where
  abbrev new : ℤ
  new = int_min (amount_at xs place) amount

  here : amount_at (slice_set xs place new) place ≡ new
  here = get_or-set_same xs place new never lt

  -- each place has what it had, but for the one with the new amount
  cases : (P : ℕ → ℤ → Type 0) → P place new → ((i : ℕ) → P i (amount_at xs i)) → (i : ℕ) →
      P i (amount_at (slice_set xs place new) i)
  cases P now before i = by (cases_eq i place)
    where
      by : (i ≡ place) ⊎ (i ≡ place → ⊥) → P i (amount_at (slice_set xs place new) i)
      by (inl is) =
          subst (λ (j : ℕ). P j (amount_at (slice_set xs place new) j)) (sym is) (subst (P place) (sym here) now)
      by (inr apart) = subst (P i) (sym (get_or-set_other xs place i new never apart)) (before i)

  pub lowered : IsLowered place amount xs (slice_set xs place new)
  lowered =
      record {
        there = subst (λ (z : ℤ). z ≤ℤ amount) (sym here) (min_second (amount_at xs place) amount);
        below = cases (λ i z. z ≤ℤ amount_at xs i) (min_first (amount_at xs place) amount)
            (λ i. le_refl (amount_at xs i));
        amounts = λ count are least.
            cases (λ i z. IsAmount count z)
            (record {
              low = min_low _ _ _ (are place).low least;
              high = le_trans new _ _ (min_first (amount_at xs place) amount) (are place).high;
            })
            are;
      }

-- the same of an amount that is passed as its bits
pub lowered_to : (place : ℕ) (passed amount : ℤ) (before after : List ℤ) → SFits w64 passed → passed ≡ amount →
    IsLowered place (to_z w64 (of_z w64 passed)) before after → IsLowered place amount before after
lowered_to place passed amount before after fits is done =
    subst (λ (z : ℤ). IsLowered place z before after) (to_z-of_z w64 passed fits ∙ is) done

-- ---- lists that one amount fills

-- the list has it at each place, and nothing past its end
pub filled : (n : ℕ) (amount : ℤ) (xs : List ℤ) → xs ≡ replicate n amount → (place : ℕ) → (P : ℤ → Type 0) →
    P amount → P never → P (amount_at xs place)
filled n amount xs is place P here past = by (cases_lt place n)
  where
    by : (place < n) ⊎ (n ≤ place) → P (amount_at xs place)
    by (inl lt) = subst P (sym (ap (λ l. get_or l place never) is ∙ get_or-replicate n place amount never lt)) here
    by (inr ge) =
        subst P (sym (get_or_past xs place never (omega (arith, ge, ap length is, length-replicate n amount)))) past

-- ---- sums of 128 bits

-- the number as it is read back from its bits
abbrev wide : ℤ → ℤ
wide z = to_z w128 (of_z w128 z)

-- amounts of 64 bits are added without loss
pub wide_sums : (p h x y p' h' x' y' least : ℤ) → p ≡ p' → h ≡ h' → x ≡ x' → y ≡ y' →
    SFits w64 p' → SFits w64 h' → SFits w64 x' → SFits w64 y' →
    least ≡ int_min (wide (wide (wide p +ℤ wide h) +ℤ wide x)) (wide (wide p +ℤ wide y)) →
    least ≡ int_min (p' +ℤ h' +ℤ x') (p' +ℤ y')
wide_sums p h x y p' h' x' y' least same_p same_h same_x same_y a b c d is = rw (first, second) at is
  where
    first : wide (wide (wide p +ℤ wide h) +ℤ wide x) ≡ p' +ℤ h' +ℤ x'
    first = omega (arith, ints, same_p, same_h, same_x, a, b, c)

    second : wide (wide p +ℤ wide y) ≡ p' +ℤ y'
    second = omega (arith, ints, same_p, same_y, a, d)
