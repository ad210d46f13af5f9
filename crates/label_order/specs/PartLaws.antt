-- The laws of labels of one part and of two.
use Rattle.std.specs.Prelude.{◌≡◌, Bool, true, false, ◌&&◌, ℤ, ◌≤ℤ◌}
use Rattle.std.proofs.Common.{sym, ap, ◌∙◌, refl, arith}
use Rattle.std.proofs.lemmas.Int.{ints}
use Rattle.std.proofs.lemmas.Bool.{and_parts, and_from}
use Rattle.std.specs.declared.cmp.Ordering.{Ordering}
use Rattle.std.specs.declared.cmp.Ordering.TheVariants.{Less, Equal, Greater}
use Rattle.std.specs.Ordering.{is_le, is_gt, int_cmp}
use Rattle.std.specs.Cmp.{IsTotalOrder, IsEquivalence, upto, tied_itself}
use Rattle.label_order.specs.Labels.{OrderLaws, IsReachedBelow}

-- to be at most and to be above exclude each other
not_above : (o : Ordering) → is_le o ≡ true → is_gt o ≡ false
not_above Less e = refl
not_above Equal e = refl
not_above Greater e = sym e

at_most_or_above : (o : Ordering) → is_gt o ≡ false → is_le o ≡ true
at_most_or_above Less e = refl
at_most_or_above Equal e = refl
at_most_or_above Greater e = sym e

module _ {X T : Type 0} (value : X → T) where
  -- labels by a value of a total order
  pub least_laws : (cmp : T → T → Ordering) → IsTotalOrder cmp → OrderLaws (λ a b. is_le (cmp (value a) (value b)))
  least_laws cmp total = record {
    reflexive = λ x. ap is_le (tied_itself total (value x));
    transitive = λ x y z p q. at_most_or_above _ (upto total (value x) (value y) (value z) (not_above _ p) (not_above _ q));
  }

  -- labels by a value that is the same or not
  pub flat_laws : (same : T → T → Bool) → IsEquivalence same → OrderLaws (λ a b. same (value a) (value b))
  flat_laws same equal = record {
    reflexive = λ x. equal.refl (value x);
    transitive = λ x y z p q. sym (equal.congr (value y) (value x) (value z) (equal.symm (value y) (value x) ∙ p)) ∙ q;
  }

module _ {X A B : Type 0} (first : X → A) (second : X → B) (p : A → A → Bool) (q : B → B → Bool) where
  -- labels of two parts
  pub both_laws : OrderLaws p → OrderLaws q → OrderLaws (λ a b. p (first a) (first b) && q (second a) (second b))
  both_laws f s = record {
    reflexive = λ x. and_from _ _ (f.reflexive (first x)) (s.reflexive (second x));
    transitive = λ x y z one two.
        let here = and_parts _ _ one in
        let next = and_parts _ _ two in
        and_from _ _ (f.transitive _ _ _ here.0 next.0) (s.transitive _ _ _ here.1 next.1);
  }

  -- and their steps
  pub both_reached : {R : Type 0} (goes : A → R → A → Bool) (runs : B → R → B → Bool) (a : X) (r : R) (n there : X) →
      IsReachedBelow p goes (first a) r (first n) (first there) → IsReachedBelow q runs (second a) r (second n) (second there) →
      IsReachedBelow (λ a b. p (first a) (first b) && q (second a) (second b)) (λ a r n. goes (first a) r (first n) && runs (second a) r (second n)) a r n there
  both_reached goes runs a r n there one two = record { reached = and_from _ _ one.reached two.reached; below = and_from _ _ one.below two.below }

-- by the order of numbers, no greater
pub int_le-from_cmp : (x y : ℤ) → is_le (int_cmp x y) ≡ true → x ≤ℤ y
int_le-from_cmp x y e = grind (arith, ints)
