-- The query that a plan's words give over a feed.
use Rattle.std.specs.Prelude.{ℕ, ◌||◌, nat_lt, if◌then◌else◌, List, length, Option, Some, None, ok_or, option_map, Result, Ok, Err}
use Rattle.transit_base.specs.declared.StopId.{StopId}
use Rattle.transit_base.specs.declared.RiderId.{RiderId}
use Rattle.plain_laws.specs.Plain.{find_below, count_below}
use Rattle.feed_rows.specs.FeedRows.{FeedRows}
use Rattle.feed_rows.specs.StopLinks.{is_platform, is_station}
use Rattle.feed_rows.specs.RowsById.{find_rider, find_stop, is_default_rider}
use Rattle.feed_rows.specs.declared.journeys.Buyer.{Buyer}
use Rattle.feed_rows.specs.declared.journeys.Query.{Query}
use Rattle.commands.specs.UsageFaults.{unless_fault}
use Rattle.commands.specs.Requests.{PlanRequest}
use Rattle.commands.specs.declared.usage.StopWord.{StopWord}
use Rattle.commands.specs.declared.usage.StopWord.TheVariants as stop_word
use Rattle.commands.specs.declared.usage.UsageFault.{UsageFault}
use Rattle.commands.specs.declared.usage.UsageFault.TheVariants as usage

-- the platform or station that a word names
abbrev pub named_stop : FeedRows → StopWord → List ℕ → Result StopId UsageFault
named_stop feed word id =
    unless_fault (ok_or (find_stop feed id) (usage.UnknownStop word)) (λ stop.
    if is_platform feed stop || is_station feed stop then Ok stop else Err (usage.WrongStopKind word))

-- the rider category that is named; where none is, the one that is marked as default, or no category where none is marked;
-- two or more that are marked are a fault
abbrev pub chosen_rider : FeedRows → Option (List ℕ) → Result (Option RiderId) UsageFault
chosen_rider feed (Some id) = unless_fault (ok_or (find_rider feed id) usage.UnknownRider) (λ rider. Ok (Some rider))
chosen_rider feed None =
    if nat_lt 1 (count_below (length feed.riders) (is_default_rider feed)) then Err usage.RiderNeeded
    else Ok (option_map (λ i. record { 0 = i }) (find_below (length feed.riders) (is_default_rider feed)))

-- the buyer: who pays for the rider category that is chosen
abbrev pub chosen_buyer : FeedRows → Option (List ℕ) → Result Buyer UsageFault
chosen_buyer feed id = unless_fault (chosen_rider feed id) (λ rider. Ok (record { rider = rider }))

-- the query, or the first fault of the names that the words give
abbrev pub query_of : FeedRows → PlanRequest → Result Query UsageFault
query_of feed request =
    unless_fault (named_stop feed stop_word.From request.from) (λ from.
    unless_fault (named_stop feed stop_word.To request.to) (λ to.
    unless_fault (chosen_buyer feed request.rider) (λ buyer.
    Ok (record {
      from = from;
      to = to;
      departure = record { 0 = request.departure };
      rides = request.rides;
      window = request.window;
      buyer = buyer;
    }))))
