-- The rides that a search has taken.
use Rattle.std.specs.Prelude.{List, [], ◌∷◌, ◌++◌}
use Rattle.feed_rows.specs.declared.journeys.LegFacts.{LegFacts}
use Rattle.feed_rows.specs.declared.journeys.Ride.{Ride}
use Rattle.fare_automaton.specs.Terms.{FareTerms}

-- rides in order, and what fare rules look at in each; and by which rows and for which buyer they are priced
pub record Taken : Type 0 where
  pub terms : FareTerms
  pub rides : List Ride
  pub legs : List LegFacts

-- none is taken yet
abbrev pub no_ride : FareTerms → Taken
no_ride terms = record { terms = terms; rides = []; legs = [] }

-- one ride more is taken
abbrev pub with_ride : Taken → Ride → LegFacts → Taken
with_ride taken ride leg = record { terms = taken.terms; rides = taken.rides ++ ride ∷ []; legs = taken.legs ++ leg ∷ [] }
