use Rattle.std.proofs.Common.{◌∙◌, ◌<◌, ap, sym, subst, List, length, get_or, pos}
use Rattle.std.specs.Prelude.{slice_get}
use Rattle.std.proofs.lemmas.Option.{slice_get-get_or}
use Rattle.feed_rows.specs.declared.journeys.Call.{Call}
use Rattle.plan_patterns.specs.declared.runs.Run.{Run}
use Rattle.plan_patterns.proofs.ColumnLaws.{timed_at}
use Rattle.plan_patterns.proofs.pattern.boarding_of.Goals as goal

pub calls_of-requires : goal.calls_of-requires
calls_of-requires c = (c.requires.runs c.args.number _ c.requires.inside).known.inside

pub at-call-requires : goal.at-call-requires
at-call-requires c = subst (λ (cs : List Call). c.args.position < length cs) (sym c.calls_of.ensures.value) (c.requires.runs c.args.number _ c.requires.inside).calls

pub moment-requires-clause-near : goal.moment-requires-clause-near
moment-requires-clause-near c = (c.requires.runs c.args.number _ c.requires.inside).known.near

pub moment-requires-clause-time : goal.moment-requires-clause-time
moment-requires-clause-time c = (timed_at c.calls_of.result c.args.position c.at-call.result c.calls_of.ensures.times c.at-call.ensures).1

pub returns-clause-is : goal.returns-clause-is
returns-clause-is c =
    let none : Run = record { trip = record { 0 = 0 }; day = record { 0 = pos 0 }; shift = pos 0 } in
    record {
      run = get_or c.args.runs.now c.args.number none;
      run_is = slice_get-get_or c.args.runs.now c.args.number none c.requires.inside;
      call = c.at-call.result;
      call_is = ap (λ (cs : List Call). slice_get cs c.args.position) (sym c.calls_of.ensures.value) ∙ c.at-call.ensures;
      at = c.moment.ensures;
    }
