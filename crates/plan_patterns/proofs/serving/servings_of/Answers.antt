use Rattle.std.proofs.Common.{◌≡◌, ◌∙◌, ◌<◌, ◌^◌, List, ap, length, subst, sym, arith}
use Rattle.std.proofs.lemmas.List.{length-map}
use Rattle.std.proofs.lemmas.Result.{IfOk-weaker}
use Rattle.feed_rows.specs.FeedRows.{FeedRows}
use Rattle.item_groups.specs.Groups.{groups_below}
use Rattle.plan_patterns.specs.declared.halts.Halt.{Halt}
use Rattle.plan_patterns.specs.declared.pattern.Pattern.{Pattern}
use Rattle.plan_patterns.specs.Servings.{halts_in}
use Rattle.plan_patterns.proofs.ServingLaws.{by_stop, servings_more}
use Rattle.plan_patterns.proofs.serving.servings_of.Goals as goal

pub loop-number-init : goal.loop-number-init
loop-number-init c = c.new-servings.ensures.items

pub add_pattern-requires : goal.add_pattern-requires
add_pattern-requires c = subst (λ (hs : List Halt). length hs < 2 ^ 32) (sym c.deref.ensures.value) (c.requires c.loop-number.number _ c.loop-number-test.true)

pub returns-clause-few : goal.returns-clause-few
returns-clause-few c = IfOk-weaker c.of.result _ _ (λ servings are. omega (arith, c.if-patterns.false)) c.of.ensures

pub loop-number-preserved : goal.loop-number-preserved
loop-number-preserved c = servings_more c.args.patterns.now c.loop-number.number _ _ _ _ (omega (arith, c.loop-number-test.true)) c.deref.ensures.value c.loop-number.invariant c.in_ok-add_pattern.ensures

pub returns-clause-by_stop : goal.returns-clause-by_stop
returns-clause-by_stop c =
    let long = length-map c.args.patterns.now (λ (p : Pattern). p.halts.items) in
    let all : c.loop-number.number ≡ length (halts_in c.args.patterns.now) = omega arith in
    let stops = c.items.ensures.len ∙ ap (λ (feed : FeedRows). length feed.stops) (c.behind-timetable.view_is ∙ c.feed.ensures.value) in
    IfOk-weaker c.of.result _ _
    (λ servings are. by_stop (halts_in c.args.patterns.now) (length c.args.timetable.now.stops) c.loop-number.number c.loop-number.servings.items servings all c.loop-number.invariant (are ∙ ap (λ n. groups_below n c.loop-number.servings.items) stops))
    c.of.ensures
