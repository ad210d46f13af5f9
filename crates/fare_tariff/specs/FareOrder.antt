-- The order of fares, and their classes.
use Rattle.std.specs.Prelude.{◌≡◌, true, Option, Some, None, option_map}
use Rattle.std.proofs.Common.{refl, ◌∙◌}
use Rattle.std.specs.Bool.{Decides}
use Rattle.std.specs.Option.{option_eq}
use Rattle.std.proofs.lemmas.Bool.{and_parts, and_from}
use Rattle.label_order.specs.Labels.{OrderLaws}
use Rattle.feed_rows.specs.declared.states.FareState.{FareState}
use Rattle.feed_rows.specs.Amounts.{IsNoDearer, is_no_dearer}
use Rattle.feed_rows.specs.SameStates.{same_parts}
use Rattle.feed_laws.proofs.SameStates.{same_parts_decides}
use Rattle.plain_laws.proofs.Decisions.{option_eq_decides}
use Rattle.fare_laws.proofs.AmountLaws.{no_dearer-holds, no_dearer-itself, no_dearer-tells, no_dearer-trans}
use Rattle.round_terms.specs.Classes.{KeepsClass}
use Rattle.fare_tariff.specs.declared.fare.Fare.{Fare}
use Rattle.fare_tariff.specs.declared.fare_class.FareClass.{FareClass}
use Rattle.fare_tariff.specs.FareClasses.{class_by, same_class}
use Rattle.fare_tariff.specs.FareTerms.{at_most, same_state, spent_of}

same_state_decides : (a b : Option FareState) → Decides (same_state a b) (a ≡ b)
same_state_decides = option_eq_decides same_parts same_parts_decides

-- what the test tells
pub record IsAtMost (a b : Fare) : Type 0 where
  pub spent : IsNoDearer (spent_of a) (spent_of b)
  pub state : a.state ≡ b.state

pub at_most-tells : (a b : Fare) → at_most a b ≡ true → IsAtMost a b
unfolding at_most
at_most-tells a b h =
    let both = and_parts (is_no_dearer (spent_of a) (spent_of b)) (same_state a.state b.state) h in
    record {
      spent = no_dearer-tells (spent_of a) (spent_of b) both.0;
      state = (same_state_decides a.state b.state).0 both.1;
    }

-- and when it holds
pub at_most-holds : (a b : Fare) → IsAtMost a b → at_most a b ≡ true
unfolding at_most
at_most-holds a b is =
    and_from _ _ (no_dearer-holds (spent_of a) (spent_of b) is.spent) ((same_state_decides a.state b.state).1 is.state)

pub fare_order : OrderLaws at_most
fare_order = record {
  reflexive = λ a. at_most-holds a a (record { spent = no_dearer-itself (spent_of a); state = refl });
  transitive = λ a b c p q.
      let first = at_most-tells a b p in
      let last = at_most-tells b c q in
      at_most-holds a c (record {
        spent = no_dearer-trans (spent_of a) (spent_of b) (spent_of c) first.spent last.spent;
        state = first.state ∙ last.state;
      });
}

-- ---- classes

-- the class of a fare is its state
abbrev pub class_of : Fare → Option FareClass
class_of fare = option_map class_by fare.state

by_states : (a b : Option FareState) → same_state a b ≡ true → option_eq same_class (option_map class_by a) (option_map class_by b) ≡ true
by_states None None h = refl
by_states None (Some t) h = h
by_states (Some s) None h = h
by_states (Some s) (Some t) h = h

pub keeps_class : KeepsClass at_most same_class class_of
keeps_class a b below = by_states a.state b.state ((same_state_decides a.state b.state).1 (at_most-tells a b below).state)
