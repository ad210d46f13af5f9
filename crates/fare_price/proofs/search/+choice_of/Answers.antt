use Rattle.std.proofs.Common.{sym, ◌∙◌, ap, arith}
use Rattle.std.specs.Prelude.{Some, None}
use Rattle.std.proofs.lemmas.Result.{IfOk-weaker}
use Rattle.std.proofs.lemmas.Option.{slice_get_past, slice_get-get_or}
use Rattle.feed_rows.specs.declared.fares.Choice.{Choice}
use Rattle.feed_rows.specs.FareExtensions.{extended}
use Rattle.fare_price.proofs.LayerLaws.{choice_of-step}
use Rattle.fare_price.proofs.search.+choice_of.Goals as goal

pub returns-in_ok-choice_of-in-Some : goal.returns-in_ok-choice_of-in-Some
returns-in_ok-choice_of-in-Some t c =
    IfOk-weaker c.extended-in-Some.result _ _
    (λ more is. is ∙ ap (λ (choice : Choice). extended choice c.args.way.now.step) c.in_ok-choice_of-in-Some.ensures
    ∙ choice_of-step c.args.steps.now c.args.changes c.args.way.now (Some c.in-Some.before.now) (omega arith)
    (slice_get-get_or c.args.steps.now c.args.way.now.before c.in-Some.before.now c.in-Some.ensures.lookup.3.0
    ∙ ap Some (sym c.in-Some.ensures.lookup.1)))
    c.extended-in-Some.ensures

pub returns-in-None : goal.returns-in-None
returns-in-None t c =
    IfOk-weaker c.extended-in-None.result _ _
    (λ more is. is ∙ ap (λ (choice : Choice). extended choice c.args.way.now.step) c.no_choice-in-None.ensures
    ∙ choice_of-step c.args.steps.now c.args.changes c.args.way.now None (omega arith)
    (slice_get_past c.args.steps.now c.args.way.now.before c.in-None.ensures.lookup.3))
    c.extended-in-None.ensures
