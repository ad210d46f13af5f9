-- Tables of labels, as a search by rounds makes them: each label with the one from which its last ride went on.
use Rattle.std.specs.Prelude.{ℕ, zero, suc, List, [], ◌∷◌, ◌++◌, length, slice_get, Option, is_none, option_map, option_and_then}
use Rattle.transit_base.specs.declared.numbers.StopId.{StopId}
use Rattle.feed_rows.specs.declared.fares.Entry.{Entry}
use Rattle.feed_rows.specs.declared.fares.Triple.{Triple}
use Rattle.feed_rows.specs.declared.journeys.Ride.{Ride}
use Rattle.feed_rows.specs.declared.states.Move.{Move}
use Rattle.feed_rows.specs.FareExtensions.{extended}
use Rattle.feed_rows.specs.FareSteps.{is_whole}
use Rattle.feed_rows.specs.PartialJourneys.{PartialJourney, LabelFacts, journey_to}
use Rattle.plain_laws.specs.Plain.{collect_below, when}

-- what a search keeps of a partial journey: its facts, the number of the label without its last ride, that ride, and
-- what pays it
pub record Label : Type 0 where
  pub facts : LabelFacts
  pub parent : Option ℕ
  pub ride : Option Ride
  pub taken : Option Move

-- a triple that is found, the number of a label that has it, and the stop at which the journey ends
pub record Final : Type 0 where
  pub triple : Triple
  pub label : ℕ
  pub last : StopId

-- the labels by number, the numbers of those of so many rides at a stop, and what is found
pub record RoundTable : Type 0 where
  pub labels : List Label
  pub bag : ℕ → StopId → List ℕ
  pub finals : List Final

-- the partial journey without rides from this stop
abbrev pub start_at : StopId → PartialJourney
start_at first = record { first = first; rides = []; choice = record { legs = []; changes = [] } }

-- the partial journey with one more ride, and what pays it
abbrev pub with_ride : PartialJourney → Ride → Move → PartialJourney
with_ride part ride taken =
    record { first = part.first; rides = part.rides ++ ride ∷ []; choice = extended part.choice taken }

-- a label without a ride starts at its stop
abbrev pub start_of_label : Label → Option PartialJourney
start_of_label label = when (is_none label.ride) (start_at label.facts.stop)

-- a move by which a change has a product row only where it is arranged
abbrev pub whole_move : Move → Option Move
whole_move taken = when (is_whole taken) taken

-- the partial journey of a label from which n parents lead back to one without a ride; none where they don't
abbrev pub traced : List Label → ℕ → ℕ → Option PartialJourney
traced labels zero number =
    option_and_then start_of_label (slice_get labels number)
traced labels (suc n) number =
    option_and_then (λ label. option_and_then (λ parent. option_and_then (λ ride. option_and_then (λ taken.
    option_map (λ part. with_ride part ride taken) (traced labels n parent))
    (option_and_then whole_move label.taken)) label.ride) label.parent) (slice_get labels number)

-- the entry by which a final ends at its last stop
abbrev pub entry_of_final : RoundTable → Final → Option Entry
entry_of_final table final =
    option_map
    (λ part. record { triple = final.triple; journey = journey_to final.last part; choice = part.choice })
    (traced table.labels final.triple.rides final.label)

-- the entries by which all finals end
abbrev pub entries_of : RoundTable → Option (List Entry)
entries_of table =
    collect_below (length table.finals) (λ i. option_and_then (entry_of_final table) (slice_get table.finals i))
