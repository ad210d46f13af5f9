-- Orders of labels, the steps from label to label, and the classes and heights of labels.
use Rattle.std.specs.Prelude.{◌≡◌, Bool, true, ℤ, ◌≤ℤ◌}

-- the order is reflexive and transitive
pub record OrderLaws {X : Type 0} (at_most : X → X → Bool) : Type 0 where
  pub reflexive : (x : X) → at_most x x ≡ true
  pub transitive : (x y z : X) → at_most x y ≡ true → at_most y z ≡ true → at_most x z ≡ true

-- the label `there` is reached from a by the step r, and is at most n
pub record IsReachedBelow {X R : Type 0} (at_most : X → X → Bool) (leads : X → R → X → Bool) (a : X) (r : R) (n there : X) : Type 0 where
  pub reached : leads a r there ≡ true
  pub below : at_most there n ≡ true

-- a label that is at most another has its class, and is not higher
pub record StairLaws {X C : Type 0} (at_most : X → X → Bool) (same_class : C → C → Bool) (class_of : X → C) (height_of : X → ℤ) : Type 0 where
  pub class : (a b : X) → at_most a b ≡ true → same_class (class_of a) (class_of b) ≡ true
  pub height : (a b : X) → at_most a b ≡ true → height_of a ≤ℤ height_of b
