-- The halts of trips: the stops at which they call, and what riders may do there.
use Rattle.std.specs.Prelude.{List, map}
use Rattle.std.specs.Cmp.Lexicographic.{slice_cmp}
use Rattle.std.specs.Ordering.{nat_cmp, bool_cmp, on, then_cmp}
use Rattle.std.specs.declared.cmp.Ordering.{Ordering}
use Rattle.transit_base.specs.declared.numbers.TripId.{TripId}
use Rattle.feed_rows.specs.declared.journeys.Call.{Call}
use Rattle.feed_rows.specs.FeedRows.{FeedRows}
use Rattle.feed_rows.specs.Calls.{calls_of}
use Rattle.plan_patterns.specs.declared.halts.Halt.{Halt}
use Rattle.plan_patterns.specs.declared.runs.Run.{Run}

-- the halt of a call
abbrev pub halt_of : Call → Halt
halt_of call = record { stop = call.stop; pickup = call.pickup; drop_off = call.drop_off }

-- the halts of a trip, in order
abbrev pub halts_of : FeedRows → TripId → List Halt
halts_of feed trip = map halt_of (calls_of feed trip)

-- those of a run's trip
abbrev pub run_halts : FeedRows → Run → List Halt
run_halts feed run = halts_of feed run.trip

-- by stop, and then by what riders may do there
abbrev pub halt_cmp : Halt → Halt → Ordering
halt_cmp =
    then_cmp (then_cmp (on (λ h. h.stop.0) nat_cmp) (on (λ h. h.pickup) bool_cmp)) (on (λ h. h.drop_off) bool_cmp)

abbrev pub halts_cmp : List Halt → List Halt → Ordering
halts_cmp = slice_cmp halt_cmp
