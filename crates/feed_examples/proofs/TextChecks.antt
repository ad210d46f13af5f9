-- What the definitions make of names and texts, by examples.
use Rattle.std.specs.Prelude.{◌≡◌, refl, ℕ, ◌==◌, Bool, true, false, if◌then◌else◌, List, [], ◌∷◌, map, replicate, Option, Some, None, Result, Ok, Err, pos, negsuc, codes}
use Rattle.std.specs.Fmt.{digits}
use Rattle.feed_rows.specs.Lines.{line}
use Rattle.feed_rows.specs.MoneyText.{money_text}
use Rattle.commands.specs.CommandTexts.{usage_line, refused_line, check_text}
use Rattle.feed_rows.specs.FeedRows.{FeedRows}
use Rattle.commands.specs.Requests.{PlanRequest}
use Rattle.feed_rows.specs.RowsById.{has_stop_id, has_rider_id, is_default_rider}
use Rattle.commands.specs.Queries.{query_of}
use Rattle.feed_rows.specs.declared.rows.StopRow.{StopRow}
use Rattle.feed_rows.specs.declared.rows.RiderRow.{RiderRow}
use Rattle.feed_rows.specs.declared.journeys.Query.{Query}
use Rattle.feed_files.specs.declared.names.FileName.TheVariants as file
use Rattle.feed_files.specs.declared.names.ColumnName.TheVariants as column
use Rattle.feed_files.specs.declared.faults.FaultKind.TheVariants as kind
use Rattle.commands.specs.declared.usage.StopWord.TheVariants as stop_word
use Rattle.commands.specs.declared.usage.UsageFault.{UsageFault}
use Rattle.commands.specs.declared.usage.UsageFault.TheVariants as usage
use Rattle.feed_examples.specs.BaseFeed.{base, no_category, of_category}

-- a stop of this kind without a parent
abbrev stop : List ℕ → ℕ → StopRow
stop id kind = record { id = id; kind = kind; parent = None }

-- a rider category
abbrev category : List ℕ → Bool → RiderRow
category id default = record { id = id; default = default }

-- a text with `|` for each tab, as a line with its line feed
abbrev tabbed : List ℕ → List ℕ
tabbed [] = 10 ∷ []
tabbed (byte ∷ bytes) = (if byte == 124 then 9 else byte) ∷ tabbed bytes

-- lines without fields and with empty fields
pub lines :
    map (line (codes "uncovered")) ([] ∷ (codes "" ∷ codes "a" ∷ []) ∷ (codes "a" ∷ codes "" ∷ []) ∷ [])
    ≡ tabbed (codes "uncovered") ∷ tabbed (codes "uncovered||a") ∷ tabbed (codes "uncovered|a|") ∷ []
lines = refl

-- usage lines
pub usage_lines :
    map usage_line
    (usage.WrongWords ∷ usage.BadDate ∷ usage.BadTime ∷ usage.BadRides ∷ usage.BadWindow ∷ usage.BadRide 8 ∷ usage.BadSeed ∷ usage.BadLines
    ∷ usage.UnknownStop stop_word.From ∷ usage.UnknownStop stop_word.To ∷ usage.WrongStopKind stop_word.From ∷ usage.WrongStopKind stop_word.To
    ∷ usage.NoSuchRide 1 ∷ usage.NoChange 1 ∷ usage.UnknownRider ∷ usage.RiderNeeded ∷ [])
    ≡ map tabbed
    (codes "usage|WrongWords|-" ∷ codes "usage|BadDate|DATE" ∷ codes "usage|BadTime|TIME" ∷ codes "usage|BadRides|--rides"
    ∷ codes "usage|BadWindow|--within" ∷ codes "usage|BadRide|8" ∷ codes "usage|BadSeed|SEED" ∷ codes "usage|BadLines|LINES"
    ∷ codes "usage|UnknownStop|FROM" ∷ codes "usage|UnknownStop|TO" ∷ codes "usage|WrongStopKind|FROM" ∷ codes "usage|WrongStopKind|TO"
    ∷ codes "usage|NoSuchRide|1" ∷ codes "usage|NoChange|1" ∷ codes "usage|UnknownRider|--rider" ∷ codes "usage|RiderNeeded|--rider" ∷ [])
unfolding digits
usage_lines = refl

-- lines of feed faults
pub refused_lines :
    map refused_line
    (record { kind = kind.BadAmount; file = file.FareProducts; row = 1; column = Some column.Amount }
    ∷ record { kind = kind.MixedCurrency; file = file.FareProducts; row = 2; column = Some column.Currency }
    ∷ record { kind = kind.BadTime; file = file.StopTimes; row = 6; column = Some column.ArrivalTime }
    ∷ record { kind = kind.BadDate; file = file.CalendarDates; row = 1; column = Some column.Date }
    ∷ record { kind = kind.UnknownReference; file = file.StopTimes; row = 3; column = Some column.StopId }
    ∷ record { kind = kind.MissingFile; file = file.FareLegRules; row = 0; column = None }
    ∷ [])
    ≡ map tabbed
    (codes "refused|12|BadAmount|fare_products.txt|1|amount" ∷ codes "refused|14|MixedCurrency|fare_products.txt|2|currency"
    ∷ codes "refused|10|BadTime|stop_times.txt|6|arrival_time" ∷ codes "refused|11|BadDate|calendar_dates.txt|1|date"
    ∷ codes "refused|16|UnknownReference|stop_times.txt|3|stop_id" ∷ codes "refused|1|MissingFile|fare_leg_rules.txt|0|-" ∷ [])
unfolding digits
refused_lines = refl

-- `check` on the base feed
pub check_line : check_text base ≡ tabbed (codes "accepted|3|2|3|6|2|1")
unfolding digits
check_line = refl

-- amounts with two, three and no decimals
pub cents :
    map (money_text 2) (pos 0 ∷ pos 5 ∷ pos 30 ∷ pos 250 ∷ pos 123_456 ∷ negsuc 29 ∷ negsuc 0 ∷ negsuc 1_233 ∷ pos 1_000_000_000_000 ∷ [])
    ≡ codes "0.00" ∷ codes "0.05" ∷ codes "0.30" ∷ codes "2.50" ∷ codes "1234.56" ∷ codes "-0.30" ∷ codes "-0.01" ∷ codes "-12.34"
    ∷ codes "10000000000.00" ∷ []
unfolding money_text digits
cents = refl

pub mills :
    map (money_text 3) (pos 0 ∷ pos 5 ∷ pos 250 ∷ pos 2_500 ∷ pos 12_034 ∷ negsuc 29 ∷ [])
    ≡ codes "0.000" ∷ codes "0.005" ∷ codes "0.250" ∷ codes "2.500" ∷ codes "12.034" ∷ codes "-0.030" ∷ []
unfolding money_text digits
mills = refl

pub wholes : map (money_text 0) (pos 0 ∷ pos 350 ∷ negsuc 29 ∷ []) ≡ codes "0" ∷ codes "350" ∷ codes "-30" ∷ []
unfolding money_text digits
wholes = refl

-- an amount of another number of decimals has no text, not even its sign
pub other_decimals : (map (money_text 1) (pos 5 ∷ negsuc 4 ∷ []) ≡ [] ∷ [] ∷ []) × (money_text 4 (negsuc 0) ≡ [])
unfolding money_text
other_decimals = (refl, refl)

-- a plan from one stop to another, for a rider
abbrev between : List ℕ → List ℕ → Option (List ℕ) → PlanRequest
between from to rider = record { from = from; to = to; departure = pos 1_748_851_200; rides = 4; rider = rider; window = 86_400; stats = false }

-- the query from stop 0 to stop 2, for a rider category
abbrev query_for : Option ℕ → Result Query UsageFault
query_for None = Ok (record { from = record { 0 = 0 }; to = record { 0 = 2 }; departure = record { 0 = pos 1_748_851_200 }; rides = 4; window = 86_400; buyer = no_category })
query_for (Some n) = Ok (record { from = record { 0 = 0 }; to = record { 0 = 2 }; departure = record { 0 = pos 1_748_851_200 }; rides = 4; window = 86_400; buyer = of_category n })

-- stops that there are not, and of which FROM is told first
pub unknown_stops :
    map (query_of base)
    (between (codes "A") (codes "C") None ∷ between (codes "A") (codes "X") None ∷ between (codes "X") (codes "C") None
    ∷ between (codes "X") (codes "Y") None ∷ between (codes "a") (codes "C") None
    ∷ between (codes "A") (replicate 256 65) None ∷ between (codes "A") (codes "X") (Some (codes "senior")) ∷ [])
    ≡ query_for None ∷ Err (usage.UnknownStop stop_word.To) ∷ Err (usage.UnknownStop stop_word.From)
    ∷ Err (usage.UnknownStop stop_word.From) ∷ Err (usage.UnknownStop stop_word.From)
    ∷ Err (usage.UnknownStop stop_word.To) ∷ Err (usage.UnknownStop stop_word.To) ∷ []
unfolding has_stop_id has_rider_id is_default_rider
unknown_stops = refl

-- the base feed with stop A of this kind, a station P, and the kinds from 2 on
abbrev with_kinds : ℕ → FeedRows
with_kinds kind = record base {
  stops = stop (codes "A") kind ∷ stop (codes "P") 1 ∷ stop (codes "C") 0 ∷ stop (codes "E") 2 ∷ stop (codes "N") 3 ∷ stop (codes "Q") 4 ∷ [];
}

pub stop_kinds :
    map (λ to. query_of (with_kinds 0) (between (codes "A") to None)) (codes "C" ∷ codes "E" ∷ codes "N" ∷ codes "Q" ∷ [])
    ≡ query_for None ∷ Err (usage.WrongStopKind stop_word.To) ∷ Err (usage.WrongStopKind stop_word.To) ∷ Err (usage.WrongStopKind stop_word.To) ∷ []
unfolding has_stop_id has_rider_id is_default_rider
stop_kinds = refl

-- a station may be named
pub station : query_of (with_kinds 1) (between (codes "A") (codes "C") None) ≡ query_for None
unfolding has_stop_id has_rider_id is_default_rider
station = refl

-- the kind of FROM is told before anything of TO
pub from_kind_first :
    map (λ to. query_of (with_kinds 2) (between (codes "A") to None)) (codes "C" ∷ codes "X" ∷ codes "E" ∷ [])
    ≡ Err (usage.WrongStopKind stop_word.From) ∷ Err (usage.WrongStopKind stop_word.From) ∷ Err (usage.WrongStopKind stop_word.From) ∷ []
unfolding has_stop_id has_rider_id is_default_rider
from_kind_first = refl

-- the query of a rider's word over a feed with these categories
abbrev rider_query : List RiderRow → Option (List ℕ) → Result Query UsageFault
rider_query riders rider = query_of (record base { riders = riders }) (between (codes "A") (codes "C") rider)

-- adult is marked as default
pub one_default :
    map (rider_query (category (codes "adult") true ∷ category (codes "child") false ∷ [])) (None ∷ Some (codes "child") ∷ Some (codes "adult") ∷ Some (codes "senior") ∷ [])
    ≡ query_for (Some 0) ∷ query_for (Some 1) ∷ query_for (Some 0) ∷ Err usage.UnknownRider ∷ []
unfolding has_stop_id has_rider_id is_default_rider
one_default = refl

-- child alone is marked
pub later_default : rider_query (category (codes "adult") false ∷ category (codes "child") true ∷ []) None ≡ query_for (Some 1)
unfolding has_stop_id has_rider_id is_default_rider
later_default = refl

-- both are marked
pub two_defaults :
    map (rider_query (category (codes "adult") true ∷ category (codes "child") true ∷ [])) (None ∷ Some (codes "child") ∷ [])
    ≡ Err usage.RiderNeeded ∷ query_for (Some 1) ∷ []
unfolding has_stop_id has_rider_id is_default_rider
two_defaults = refl

-- none is marked, or there is none
pub no_default : map (λ riders. rider_query riders None) ((category (codes "adult") false ∷ []) ∷ [] ∷ []) ≡ query_for None ∷ query_for None ∷ []
unfolding has_stop_id has_rider_id is_default_rider
no_default = refl
