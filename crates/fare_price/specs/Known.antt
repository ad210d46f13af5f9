-- What it is enough to pay for each of some legs, kept by the kind of a leg.
use Rattle.std.specs.Prelude.{◌≡◌, ℕ, List, Some, length, slice_get}
use Rattle.feed_rows.specs.declared.fares.LegChoice.{LegChoice}
use Rattle.feed_rows.specs.declared.journeys.LegFacts.{LegFacts}
use Rattle.leg_kinds.specs.Kinds.{KindList, IsOfKind}
use Rattle.fare_automaton.specs.Terms.{FareTerms}

-- for each leg there is a list of its kind under its number
pub record AreKnown (lists : List (KindList LegChoice)) (legs : List LegFacts) (numbers : List ℕ) : Type 0 where
  pub many : length numbers ≡ length legs
  pub each : (i : ℕ) (leg : LegFacts) (number : ℕ) → slice_get legs i ≡ Some leg → slice_get numbers i ≡ Some number → IsOfKind lists leg number

-- a feed and a buyer, and legs
pub record FareLegs : Type 0 where
  pub terms : FareTerms
  pub legs : List LegFacts

abbrev pub legs_with : FareTerms → List LegFacts → FareLegs
legs_with terms legs = record { terms = terms; legs = legs }
