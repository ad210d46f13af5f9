-- The entry of a journey and a choice, where they are ones of a query.
use Rattle.std.specs.Prelude.{Bool, ◌&&◌, nat_le, if◌then◌else◌, ◌^◌, ◌≤◌, length, Option, None, ℤ, pos, negsuc, ◌+ℤ◌, ◌≤ℤ◌, int_le}
use Rattle.feed_rows.specs.declared.journeys.Query.{Query}
use Rattle.feed_rows.specs.declared.journeys.Journey.{Journey}
use Rattle.feed_rows.specs.declared.fares.Choice.{Choice}
use Rattle.feed_rows.specs.declared.fares.Entry.{Entry}
use Rattle.feed_rows.specs.FeedRows.{FeedRows}
use Rattle.feed_rows.specs.JourneyEntries.{rides_price}
use Rattle.feed_rows.specs.JourneyStands.{stand_after, end_arrival}
use Rattle.feed_rows.specs.Journeys.{stands_for}
use Rattle.plain_laws.specs.Plain.{given, given_last, when}
use Rattle.ticket_read.specs.declared.drafts.Draft.{Draft}

-- the moment lies within 2^50 seconds of 1970
pub record IsNearMoment (moment : ℤ) : Type 0 where
  pub low : negsuc (2 ^ 50) ≤ℤ moment
  pub high : moment ≤ℤ pos (2 ^ 50)

-- the query's departure lies within 2^50 seconds of 1970, and it permits at most 12 rides
pub record IsNearQuery (query : Query) : Type 0 where
  pub departs : IsNearMoment query.departure.0
  pub few : query.rides ≤ 12

-- the journey starts and ends where the query says, with no more rides than it says
abbrev pub fits_query : FeedRows → Query → Journey → Bool
fits_query feed query journey =
    stands_for feed query.from journey.first && stands_for feed query.to journey.last
    && nat_le (length journey.rides) query.rides

-- the arrival after the rides
unfoldable pub way_arrival : FeedRows → Query → Journey → Option ℤ
way_arrival feed query journey =
    given (stand_after feed query journey.first journey.rides (length journey.rides)) (λ stand.
    given (end_arrival feed query stand journey.last) (λ arrival.
    when (int_le arrival (query.departure.0 +ℤ pos query.window)) arrival))

-- the arrival of a journey of the query; none where it is none
unfoldable pub journey_arrival : FeedRows → Query → Journey → Option ℤ
journey_arrival feed query journey = if fits_query feed query journey then way_arrival feed query journey else None

-- the entry of a journey and a choice; none where they are none of the query
unfoldable pub judged : FeedRows → Query → Journey → Choice → Option Entry
judged feed query journey choice =
    given (journey_arrival feed query journey) (λ arrival.
    given_last (rides_price feed journey.rides choice query.buyer) (λ price.
    record {
      triple = record { arrival = record { 0 = arrival }; rides = length journey.rides; price = record { 0 = price } };
      journey = journey;
      choice = choice;
    }))

-- the entry that its lines tell
unfoldable pub entry_of : FeedRows → Query → Draft → Option Entry
entry_of feed query draft =
    given draft.first (λ first.
    given draft.last (λ last.
    judged feed query (record { first = first; last = last; rides = draft.rides }) (record { legs = draft.legs; changes = draft.changes })))
