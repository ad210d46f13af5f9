-- When a journey of a query arrives.
use Rattle.std.proofs.Common.{◌≡◌, ℕ, refl, true, false, length, ◌≤◌, ◌<ℤ◌, arith}
use Rattle.std.proofs.lemmas.Int.{ints}
use Rattle.std.proofs.lemmas.Bool.{and_parts}
use Rattle.std.proofs.lemmas.Bool.Decides.{nat_tests}
use Rattle.std.specs.Prelude.{nat_le, Some, None, ℤ, pos, ◌+ℤ◌, int_le}
use Rattle.feed_rows.specs.FeedRows.{FeedRows}
use Rattle.feed_rows.specs.JourneyStands.{Stand, stand_after, end_arrival}
use Rattle.feed_rows.specs.declared.journeys.Journey.{Journey}
use Rattle.feed_rows.specs.declared.journeys.Query.{Query}
use Rattle.ticket_read.specs.Judgement.{fits_query, way_arrival, journey_arrival}

pub few_rides : (rides most : ℕ) → nat_le rides most ≡ true → rides ≤ most
few_rides rides most test = grind (arith, nat_tests)

-- a journey that is asked for has no more rides than the query says
pub fits_few : (feed : FeedRows) (query : Query) (journey : Journey) → fits_query feed query journey ≡ true → length journey.rides ≤ query.rides
fits_few feed query journey asked = few_rides (length journey.rides) query.rides (and_parts _ _ asked).1

-- one that isn't asked for never arrives
pub arrival_unfit : (feed : FeedRows) (query : Query) (journey : Journey) → fits_query feed query journey ≡ false → None ≡ journey_arrival feed query journey
unfolding journey_arrival
arrival_unfit feed query journey unfit = rw unfit refl

-- nor does one whose rides lead nowhere
pub arrival_unstood : (feed : FeedRows) (query : Query) (journey : Journey) → fits_query feed query journey ≡ true
    → None ≡ stand_after feed query journey.first journey.rides (length journey.rides) → None ≡ journey_arrival feed query journey
unfolding journey_arrival way_arrival
arrival_unstood feed query journey asked none = rw (asked, ← none) refl

-- nor one from whose last ride there is no way to its end
pub arrival_unended : (feed : FeedRows) (query : Query) (journey : Journey) (stand : Stand) → fits_query feed query journey ≡ true
    → Some stand ≡ stand_after feed query journey.first journey.rides (length journey.rides) → None ≡ end_arrival feed query stand journey.last
    → None ≡ journey_arrival feed query journey
unfolding journey_arrival way_arrival
arrival_unended feed query journey stand asked stands none = rw (asked, ← stands, ← none) refl

-- nor one that ends too late
pub arrival_late : (feed : FeedRows) (query : Query) (journey : Journey) (stand : Stand) (arrival : ℤ) → fits_query feed query journey ≡ true
    → Some stand ≡ stand_after feed query journey.first journey.rides (length journey.rides) → Some arrival ≡ end_arrival feed query stand journey.last
    → (query.departure.0 +ℤ pos query.window) <ℤ arrival → None ≡ journey_arrival feed query journey
unfolding journey_arrival way_arrival
arrival_late feed query journey stand arrival asked stands ends late =
    let past : int_le arrival (query.departure.0 +ℤ pos query.window) ≡ false = grind (arith, ints) in
    rw (asked, ← stands, ← ends, past) refl

-- others do when they end
pub arrival_is : (feed : FeedRows) (query : Query) (journey : Journey) (stand : Stand) (arrival : ℤ) → fits_query feed query journey ≡ true
    → Some stand ≡ stand_after feed query journey.first journey.rides (length journey.rides) → Some arrival ≡ end_arrival feed query stand journey.last
    → int_le arrival (query.departure.0 +ℤ pos query.window) ≡ true → Some arrival ≡ journey_arrival feed query journey
unfolding journey_arrival way_arrival
arrival_is feed query journey stand arrival asked stands ends soon = rw (asked, ← stands, ← ends, soon) refl
