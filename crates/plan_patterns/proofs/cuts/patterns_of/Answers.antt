use Rattle.std.proofs.Common.{◌≡◌, ◌∙◌, sym, ap, subst, All, Vec, Global}
use Rattle.std.proofs.lemmas.Result.{IfOk-weaker}
use Rattle.plan_patterns.specs.declared.pattern.Pattern.{Pattern}
use Rattle.plan_patterns.specs.Cuts.{AreCut, ArePatternsOf, IsOwn, entry_runs}
use Rattle.plan_patterns.proofs.CutLaws.{own_entries, patterns_together}
use Rattle.plan_patterns.proofs.cuts.patterns_of.Goals as goal

pub cut-requires-clause-own : goal.cut-requires-clause-own
cut-requires-clause-own c =
    subst (All (IsOwn c.args.timetable.now)) (sym c.deref-2.ensures.value)
    (own_entries c.args.timetable.now c.in_ok-halts.halts c.args.runs.now c.in_ok-together.together.items c.in_ok-together.ensures c.in_ok-halts.ensures c.requires)

pub cut-requires-clause-runs : goal.cut-requires-clause-runs
cut-requires-clause-runs c = c.deref-3.ensures.value ∙ c.in_ok-in_order.ensures ∙ ap entry_runs (c.deref.ensures.value ∙ sym c.deref-2.ensures.value)

pub returns : goal.returns
returns c =
    let runs : c.deref-3.result.now ≡ entry_runs c.in_ok-together.together.items = c.deref-3.ensures.value ∙ c.in_ok-in_order.ensures ∙ ap entry_runs c.deref.ensures.value in
    IfOk-weaker c.cut.result (λ (patterns : Vec Pattern Global). AreCut c.args.timetable.now c.deref-3.result.now patterns.items) (λ (patterns : Vec Pattern Global). ArePatternsOf c.args.timetable.now c.args.runs.now patterns.items)
    (λ patterns cut. patterns_together c.args.timetable.now c.in_ok-halts.halts c.args.runs.now c.deref-3.result.now c.in_ok-together.together.items patterns.items c.in_ok-together.ensures runs cut)
    c.cut.ensures
