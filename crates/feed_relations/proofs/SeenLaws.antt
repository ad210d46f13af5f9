-- Sets that are filled row by row.
use Rattle.std.proofs.Common.{◌≡◌, refl, sym, ◌∙◌, ℕ, suc, ◌+◌, Bool, true, false, cond, [], arith, subst}
use Rattle.std.specs.Prelude.{◌||◌, not}
use Rattle.std.specs.Cmp.{IsTotalOrder}
use Rattle.std.specs.declared.cmp.Ordering.{Ordering}
use Rattle.std.specs.Ordering.{eq_by_cmp}
use Rattle.std.specs.BTreeSet.{BTreeSet, contains, Updates}
use Rattle.std.proofs.lemmas.Cmp.{eq_by_cmp_equiv}
use Rattle.plain_laws.specs.Plain.{any_below}
use Rattle.feed_relations.specs.Frames.{AreSeen}

either : (a b : Bool) → cond a true b ≡ (b || a)
either true true = refl
either true false = refl
either false true = refl
either false false = refl

twice : (a : Bool) → not (not a) ≡ a
twice true = refl
twice false = refl

module _ {K : Type 0} (order : K → K → Ordering) (item : ℕ → K) where
  pub none_seen : (seen : BTreeSet K) → seen.keys ≡ [] → AreSeen order item seen 0
  none_seen seen empty k = rw empty refl

  module _ (seen : BTreeSet K) (row : ℕ) (are : AreSeen order item seen row) (k : K) (is : k ≡ item row) where
    -- an item is new where no earlier row has it
    pub repeated : (new : Bool) → new ≡ not (contains order seen k) → any_below row (λ r. eq_by_cmp order (item row) (item r)) ≡ not new
    repeated new e = rw e (rw is (rw (are (item row)) (sym (twice (any_below row (λ r. eq_by_cmp order (item row) (item r)))))))

    -- the items that are seen with one more
    pub seen_more : (next : BTreeSet K) → IsTotalOrder order → Updates order seen next k true → AreSeen order item next (row + 1)
    seen_more next total put q =
        let e : row + 1 ≡ suc row = omega arith in
        let turn = (eq_by_cmp_equiv total).symm (item row) q in
        rw e (subst (λ x. contains order next q ≡ cond (eq_by_cmp order x q) true (contains order seen q)) is (put.0 q) ∙ either (eq_by_cmp order (item row) q) (contains order seen q) ∙ rw (are q, turn) refl)
