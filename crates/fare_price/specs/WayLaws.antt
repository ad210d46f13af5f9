-- To be as good as another way is reflexive and transitive.
use Rattle.std.specs.Prelude.{◌≡◌, true}
use Rattle.std.proofs.Common.{refl, ◌∙◌}
use Rattle.std.proofs.lemmas.Bool.{and_parts, and_from}
use Rattle.feed_rows.specs.SameStates.{same_parts}
use Rattle.feed_laws.proofs.SameStates.{same_parts_decides}
use Rattle.feed_rows.specs.Amounts.{is_no_dearer}
use Rattle.fare_laws.proofs.AmountLaws.{no_dearer-holds, no_dearer-itself, no_dearer-tells, no_dearer-trans}
use Rattle.label_order.specs.Labels.{OrderLaws}
use Rattle.fare_price.specs.declared.ways.Way.{Way}
use Rattle.fare_price.specs.Ways.{spent_on, IsBelow, is_as_good}

-- what the test tells
pub is_as_good-tells : (a b : Way) → is_as_good a b ≡ true → IsBelow a b
unfolding is_as_good
is_as_good-tells a b h =
    let both = and_parts (is_no_dearer (spent_on a) (spent_on b)) (same_parts a.step.state b.step.state) h in
    record {
      state = (same_parts_decides a.step.state b.step.state).0 both.1;
      spent = no_dearer-tells (spent_on a) (spent_on b) both.0;
    }

pub is_as_good-from : (a b : Way) → IsBelow a b → is_as_good a b ≡ true
unfolding is_as_good
is_as_good-from a b below =
    and_from _ _ (no_dearer-holds (spent_on a) (spent_on b) below.spent) ((same_parts_decides a.step.state b.step.state).1 below.state)

below_itself : (a : Way) → IsBelow a a
below_itself a = record { state = refl; spent = no_dearer-itself (spent_on a) }

pub below_trans : (a b c : Way) → IsBelow a b → IsBelow b c → IsBelow a c
below_trans a b c p q = record {
  state = p.state ∙ q.state;
  spent = no_dearer-trans (spent_on a) (spent_on b) (spent_on c) p.spent q.spent;
}

pub way_laws : OrderLaws is_as_good
way_laws = record {
  reflexive = λ x. is_as_good-from x x (below_itself x);
  transitive = λ x y z p q. is_as_good-from x z (below_trans x y z (is_as_good-tells x y p) (is_as_good-tells y z q));
}
