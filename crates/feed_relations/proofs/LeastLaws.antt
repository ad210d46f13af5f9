-- What is the first at the least number: f gives something at a number for an item of a list, or nothing. The items are taken
-- one after another, each only at the numbers below that at which one before it gave something.
use Rattle.std.proofs.Common.{◌≡◌, refl, ap, ◌∙◌, ℕ, zero, suc, ◌+◌, ◌<◌, ◌≤◌, ◌⊎◌, inl, inr, List, length, get_or, Option, Some, None, arith, add-one}
use Rattle.std.specs.Prelude.{option_and_then}
use Rattle.std.proofs.lemmas.Option.{slice_get-get_or}
use Rattle.plain_laws.specs.Plain.{first_below, first_in}
use Rattle.plain_laws.proofs.Laws.{at_item, first_in_next, first_below_found}

-- after the first i items, nothing is given below a number, and what is given there is found; or nothing below n
pub record IsLeast {X Y : Type 0} (ys : List Y) (f : ℕ → Y → Option X) (i n below : ℕ) (found : Option X) : Type 0 where
  pub within : below ≤ n
  pub none : (k : ℕ) → k < below → first_below i (at_item ys (f k)) ≡ None
  pub here : ((below ≡ n) × (found ≡ None)) ⊎ ((x : X) × (below < n) × (found ≡ Some x) × (first_below i (at_item ys (f below)) ≡ Some x))

first_stays : {X : Type 0} (g : ℕ → Option X) (i : ℕ) (x : X) → first_below i g ≡ Some x → first_below (i + 1) g ≡ Some x
first_stays g i x e = rw (add-one, e) refl

none_at_all : {X : Type 0} (g : ℕ → Option X) (n : ℕ) → ((k : ℕ) → k < n → g k ≡ None) → first_below n g ≡ None
none_at_all g zero none = refl
none_at_all g (suc n) none = rw (none_at_all g n (λ k lt. none k (omega arith)), none n (omega arith)) refl

module _ {X Y : Type 0} (ys : List Y) (f : ℕ → Y → Option X) (n : ℕ) where
  -- an item that gives nothing
  pub least_kept : (i below : ℕ) (found : Option X) (d : Y) → i < length ys → IsLeast ys f i n below found → ((k : ℕ) → k < below → f k (get_or ys i d) ≡ None) → IsLeast ys f (i + 1) n below found
  least_kept i below found d lt least nothing =
      record {
        within = least.within;
        none = λ k small. first_in_next ys (f k) i d lt (least.none k small) (nothing k small);
        here = step least.here;
      }
    where
      step : ((below ≡ n) × (found ≡ None)) ⊎ ((x : X) × (below < n) × (found ≡ Some x) × (first_below i (at_item ys (f below)) ≡ Some x)) → ((below ≡ n) × (found ≡ None)) ⊎ ((x : X) × (below < n) × (found ≡ Some x) × (first_below (i + 1) (at_item ys (f below)) ≡ Some x))
      step (inl end) = inl end
      step (inr there) = inr (there.0, there.1, there.2, first_stays (at_item ys (f below)) i there.0 there.3)

  -- an item that gives something at a lesser number
  pub least_found : (i below row : ℕ) (found : Option X) (d : Y) (x : X) → i < length ys → IsLeast ys f i n below found → row < below → ((k : ℕ) → k < row → f k (get_or ys i d) ≡ None) → f row (get_or ys i d) ≡ Some x → IsLeast ys f (i + 1) n row (Some x)
  least_found i below row found d x lt least less nothing here =
      let le = least.within in
      record {
        within = omega arith;
        none = λ k small. first_in_next ys (f k) i d lt (least.none k (omega arith)) (nothing k small);
        here = inr (x, omega arith, refl, first_below_found (at_item ys (f row)) (i + 1) i x (omega arith) (least.none row less) (ap (λ o. option_and_then (f row) o) (slice_get-get_or ys i d lt) ∙ here));
      }

  -- after all items
  pub least_end : (below : ℕ) (found : Option X) → IsLeast ys f (length ys) n below found → found ≡ first_below n (λ k. first_in ys (f k))
  least_end below found least = step least.here
    where
      g : ℕ → Option X
      g k = first_in ys (f k)

      step : ((below ≡ n) × (found ≡ None)) ⊎ ((x : X) × (below < n) × (found ≡ Some x) × (g below ≡ Some x)) → found ≡ first_below n g
      step (inl end) = let all : first_below n g ≡ None = none_at_all g n (λ k lt. least.none k (omega (arith, lt, end.0))) in rw (end.1, all) refl
      step (inr there) = let is : first_below n g ≡ Some there.0 = first_below_found g n below there.0 there.1 (none_at_all g below (λ k lt. least.none k lt)) there.3 in rw (there.2, is) refl
