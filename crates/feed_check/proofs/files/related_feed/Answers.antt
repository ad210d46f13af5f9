use Rattle.std.proofs.Common.{sym, ◌∙◌, subst}
use Rattle.feed_soundness.specs.AcceptedTables.{AreFormed}
use Rattle.feed_soundness.proofs.RelatedFiles.{related}
use Rattle.feed_tables.proofs.CallLaws.{rows_of_calls}
use Rattle.feed_tables.proofs.NumberLaws.{calls_between}
use Rattle.feed_relations.specs.JudgedBy.{AreCallsNamed}
use Rattle.feed_check.proofs.NamedLaws.{calls_named}
use Rattle.feed_check.proofs.StrayLaws.{calls_of, no_stray}
use Rattle.feed_check.proofs.files.related_feed.Goals as goal

pub first_relation_fault-requires-clause-named : goal.first_relation_fault-requires-clause-named
first_relation_fault-requires-clause-named g c = subst AreCallsNamed (sym c.of-tables.ensures) (calls_named _ c.requires.formed)

pub first_relation_fault-requires-clause-calls : goal.first_relation_fault-requires-clause-calls
first_relation_fault-requires-clause-calls g c =
    calls_of c.of-tables.result _ _ c.args.stop_times.calls c.of-tables.ensures (calls_between c.args.first.now c.args.others.now _ c.requires.kept.first_are) c.requires.stop_times

pub unreachable-requires : goal.unreachable-requires
unreachable-requires g c =
    no_stray c.of-tables.result (subst AreFormed (sym c.of-tables.ensures) c.requires.formed) (related c.of-tables.result (sym c.in_ok-fault.ensures ∙ c.in_default.is))
    c.args.stop_times.calls
    (calls_of c.of-tables.result _ _ c.args.stop_times.calls c.of-tables.ensures (calls_between c.args.first.now c.args.others.now _ c.requires.kept.first_are) c.requires.stop_times)
    c.in_default-into_rows.ensures.stray

pub feed_of_tables-requires-clause-related : goal.feed_of_tables-requires-clause-related
feed_of_tables-requires-clause-related g c = related c.of-tables.result (sym c.in_ok-fault.ensures ∙ c.in_default.is)

pub feed_of_tables-requires-clause-stop_times : goal.feed_of_tables-requires-clause-stop_times
feed_of_tables-requires-clause-stop_times g c =
    rows_of_calls c.of-tables.result c.in-Some-into_rows.rows
    (c.in-Some-into_rows.ensures.there
    ∙ calls_of c.of-tables.result _ _ c.args.stop_times.calls c.of-tables.ensures (calls_between c.args.first.now c.args.others.now _ c.requires.kept.first_are) c.requires.stop_times)
