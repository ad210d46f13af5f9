-- The rides and the buyer that words name over a feed, as contracts see them.
use Rattle.std.specs.Prelude.{◌≡◌, List, map, All, Some, Result, Err}
use Rattle.feed_rows.specs.declared.journeys.Ride.{Ride}
use Rattle.commands.specs.declared.usage.UsageFault.{UsageFault}
use Rattle.feed_rows.specs.FeedRows.{FeedRows}
use Rattle.commands.specs.PriceQueries.{PriceQuery as NamedQuery}
use Rattle.feed_rows.specs.Rides.{ride_facts}
use Rattle.command_answers.specs.declared.ride_prices.rides.NamedRide.{NamedRide}
use Rattle.command_answers.specs.declared.ride_prices.query.PriceQuery.{PriceQuery}
use Rattle.plan_words.specs.declared.error.WordsError.{WordsError}
use Rattle.plan_words.specs.declared.error.WordsError.TheVariants as error

-- the rides, without what is known of them
abbrev pub rides_of : List NamedRide → List Ride
rides_of named = map (λ n. n.ride) named

-- each ride goes where and when it is said to
abbrev pub AreKnown : FeedRows → List NamedRide → Type 0
AreKnown feed named = All (λ (n : NamedRide). ride_facts feed n.ride ≡ Some n.facts) named

-- what is asked for
abbrev pub named_query : PriceQuery → NamedQuery
named_query query = record { rides = rides_of query.rides.items; buyer = query.buyer }

-- the fault is that of the names; of want of memory nothing is said
abbrev pub IsErrorOf : {X : Type 0} → Result X UsageFault → WordsError → Type 0
IsErrorOf named (error.Usage fault) = named ≡ Err fault
IsErrorOf named error.NoMemory = Unit {0}
