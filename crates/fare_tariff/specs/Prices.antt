-- How little further rides cost.
use Rattle.std.specs.Prelude.{◌≡◌, ◌⊎◌, ℕ, ◌+◌, Bool, if◌then◌else◌, Option, Some, ℤ, pos, ◌≤ℤ◌}
use Rattle.transit_base.specs.declared.moments.Moment.{Moment}
use Rattle.feed_rows.specs.declared.journeys.Query.{Query}
use Rattle.feed_rows.specs.declared.states.FareState.{FareState}
use Rattle.feed_rows.specs.FeedRows.{FeedRows}
use Rattle.feed_rows.specs.PartialJourneys.{LabelFacts}
use Rattle.fare_bounds.specs.FareBounds.{AreFareBounds, BoundLists, late_after, least_late, least_more}
use Rattle.fare_tariff.specs.declared.prices.LeastPrices.{LeastPrices}
use Rattle.fare_tariff.specs.Lasts.{AreLastMoves}

-- more than any journey costs
abbrev pub far : ℤ
far = pos 500_000_000_000_000

-- the least price that is told of a ride, a late one where that is asked, and so many more
abbrev pub least_on : BoundLists → Bool → ℕ → LabelFacts → ℤ
least_on bounds late behind a =
    if late
    then least_late bounds (behind + 1) a.state a.paid a.held
    else least_more bounds (behind + 1) a.state a.paid a.held

-- rides are late after the fare state that depart later than some moment, which is no later than this one, unless the last ones
-- depart no later than this one
pub record IsLateSince (bounds : BoundLists) (state : Option FareState) (last : ℤ) (since : Moment) : Type 0 where
  pub moment : ℤ
  pub is : late_after bounds state ≡ Some moment
  pub past : (moment ≤ℤ since.0) ⊎ (last ≤ℤ since.0)

-- they are bounds by the fare rules for the query's buyer and rides, and the groups of all legs are marked with which a journey ends
pub record AreLeastPrices (feed : FeedRows) (query : Query) (prices : LeastPrices) : Type 0 where
  pub bounds : AreFareBounds feed query.buyer query.rides prices.lasts.items prices.bounds
  pub lasts : AreLastMoves feed query prices.lasts.items
