use Rattle.std.proofs.Common.{◌∙◌, ap, subst, arith}
use Rattle.std.specs.Prelude.{is_none}
use Rattle.feed_files.specs.declared.names.ColumnName.TheVariants.{TripId, StopId}
use Rattle.feed_files.specs.declared.names.FileName.TheVariants as file
use Rattle.feed_faults.specs.Records.{field}
use Rattle.feed_faults.specs.FeedTables.{FeedTables, table_in}
use Rattle.feed_tables.specs.ReadCalls.{trip_of, stop_of, read_call}
use Rattle.feed_tables.specs.declared.calls.ReadCall.{ReadCall}
use Rattle.feed_relations.specs.JudgedBy.{AreCallsNamed, call_at}
use Rattle.feed_relations.proofs.TripNumberLaws.{length_calls, call_is, missing_is}
use Rattle.feed_relations.proofs.judged.JudgedFeed.call.Goals as goal

pub get-requires : goal.get-requires
get-requires g c =
    let long = length_calls c.self.inside.tables.now c.self.inside.calls.now c.self.invariant.calls_are in
    let lt = rw (← c.self.view_is) at c.requires in
    omega arith

pub returns-clause-call : goal.returns-clause-call
returns-clause-call g c =
    let none = call_at c.args.self.now c.args.row in
    c.get.ensures none
    ∙ call_is c.self.inside.tables.now c.self.inside.calls.now c.args.row none c.self.invariant.calls_are (rw (← c.self.view_is) at c.requires)
    ∙ ap (λ (t : FeedTables). call_at t c.args.row) c.self.view_is

pub returns-clause-trip : goal.returns-clause-trip
unfolding read_call
returns-clause-trip g c =
    let named = subst AreCallsNamed c.self.view_is c.self.invariant.named in
    rw (ap (λ (x : ReadCall). is_none x.trip) (returns-clause-call g c)) (missing_is trip_of (table_in c.args.self.now file.Trips) TripId (field (table_in c.args.self.now file.StopTimes) c.args.row TripId) (named.trips c.args.row c.requires))

pub returns-clause-stop : goal.returns-clause-stop
unfolding read_call
returns-clause-stop g c =
    let named = subst AreCallsNamed c.self.view_is c.self.invariant.named in
    rw (ap (λ (x : ReadCall). is_none x.stop) (returns-clause-call g c)) (missing_is stop_of (table_in c.args.self.now file.Stops) StopId (field (table_in c.args.self.now file.StopTimes) c.args.row StopId) (named.stops c.args.row c.requires))
