-- What it is enough to pay for legs, kept by the kind of a leg.
use Rattle.std.specs.Prelude.{List}
use Rattle.feed_rows.specs.declared.fares.LegChoice.{LegChoice}
use Rattle.leg_kinds.specs.Kinds.{KindList}
use Rattle.fare_automaton.specs.Fewest.{AreEnough}
use Rattle.fare_automaton.specs.Terms.{FareTerms}

-- a feed and a buyer, and lists of what can be paid
pub record KnownPicks : Type 0 where
  pub terms : FareTerms
  pub lists : List (KindList LegChoice)

abbrev pub known_of : FareTerms → List (KindList LegChoice) → KnownPicks
known_of terms lists = record { terms = terms; lists = lists }

-- what is kept is enough for the legs of its kind
abbrev pub HasPicks : FareTerms → KindList LegChoice → Type 0
HasPicks terms kept = AreEnough terms.feed terms.buyer kept.kind kept.items
