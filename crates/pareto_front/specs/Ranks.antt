-- Two orders of one kind of things: in which one is as good as another, and in which a list of the best stands.
use Rattle.std.specs.Prelude.{◌≡◌, Bool, true, false}

-- `at_most` says that one is as good as another, `before` that it stands before it in a list
pub record RankLaws {X : Type 0} (at_most before : X → X → Bool) : Type 0 where
  pub reflexive : (x : X) → at_most x x ≡ true
  pub transitive : (x y z : X) → at_most x y ≡ true → at_most y z ≡ true → at_most x z ≡ true
  pub onward : (x y z : X) → before x y ≡ true → before y z ≡ true → before x z ≡ true
  -- of two that stand on one place each is as good as the other
  pub total : (x y : X) → before x y ≡ false → before y x ≡ false → at_most x y ≡ true
  -- what is as good as another does not stand after it
  pub upward : (x y : X) → at_most x y ≡ true → before y x ≡ false
