-- What the labels of a table tell, and what they end in.
use Rattle.std.specs.Prelude.{◌≡◌, ℕ, IsTrue, List, slice_get, All, AllPairs, Any, Contains, Some, None, false}
use Rattle.transit_base.specs.declared.numbers.StopId.{StopId}
use Rattle.feed_rows.specs.declared.fares.Triple.{Triple}
use Rattle.feed_rows.specs.declared.journeys.Query.{Query}
use Rattle.feed_rows.specs.declared.journeys.Ride.{Ride}
use Rattle.feed_rows.specs.declared.states.Move.{Move}
use Rattle.feed_rows.specs.FeedRows.{FeedRows}
use Rattle.feed_rows.specs.ParetoTriples.{at_most, is_before}
use Rattle.feed_rows.specs.PartialJourneys.{LabelFacts}
use Rattle.feed_rows.specs.RoundTables.{Label, Final}
use Rattle.search_laws.specs.Links.{Told}
use Rattle.round_laws.specs.LabelSteps.{IsLabelEnd}

-- ---- where labels come from

-- the label has neither a parent nor a ride
pub record IsBare (label : Label) : Type 0 where
  pub parent : label.parent ≡ None
  pub ride : label.ride ≡ None
  pub taken : label.taken ≡ None

-- it goes on from the label with the number by the ride, which the move pays
pub record GoesOn (label : Label) (number : ℕ) (by : Ride) (move : Move) : Type 0 where
  pub parent : label.parent ≡ Some number
  pub ride : label.ride ≡ Some by
  pub taken : label.taken ≡ Some move

-- what labels of a table tell
abbrev pub told : Told Label LabelFacts Ride Move
told = record { facts = λ x. x.facts; count = λ x. x.facts.rides; Fits = λ x. Unit {0}; Begins = IsBare; GoesOn = GoesOn }

-- ---- what labels end in

-- some final is at most the triple
abbrev pub IsFound : List Final → Triple → Type 0
IsFound finals triple = Any (λ final. IsTrue (at_most final.triple triple)) finals

-- the final is an end of its label
pub record IsFinal (feed : FeedRows) (query : Query) (labels : List Label) (final : Final) : Type 0 where
  pub label : Label
  pub is : slice_get labels final.label ≡ Some label
  pub end : IsLabelEnd feed query label.facts final.last final.triple

-- the finals are ends of labels, of each end some final's triple is at most its own, none is at most another, and they
-- stand in order
pub record AreFinals (feed : FeedRows) (query : Query) (labels : List Label) (finals : List Final) : Type 0 where
  pub right : All (IsFinal feed query labels) finals
  pub all : (label : Label) (last : StopId) (triple : Triple) → Contains labels label
      → IsLabelEnd feed query label.facts last triple → IsFound finals triple
  pub apart : AllPairs (λ a b. at_most a.triple b.triple ≡ false) finals
  pub in_order : AllPairs (λ a b. IsTrue (is_before a.triple b.triple)) finals
