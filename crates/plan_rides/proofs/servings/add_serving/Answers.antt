use Rattle.std.proofs.Common.{◌≡◌, subst, arith, length, refl, sym}
use Rattle.std.proofs.lemmas.Bool.Decides.{nat_tests}
use Rattle.plan_rides.specs.Served.{AddsTimed}
use Rattle.plan_rides.proofs.ServedLaws.{timed_more, timed_past}
use Rattle.plan_rides.proofs.servings.add_serving.Goals as goal

pub returns-then-is_empty : goal.returns-then-is_empty
returns-then-is_empty c =
    let patterns = c.args.patterns.now in
    let listed = c.boardable-boardings.result.now in
    let test = c.if-is_empty.true in
    let is = c.is_empty.ensures in
    let none : length listed ≡ 0 = grind (arith, nat_tests, test, is) in
    timed_past patterns.feed c.args.span.now patterns.patterns c.args.stop.0 c.args.serving.now listed
    c.args.served.now.items none c.boardable-boardings.ensures

pub returns : goal.returns
returns c =
    let patterns = c.args.patterns.now in
    let listed = c.boardable-boardings.result.now in
    subst (AddsTimed patterns.feed c.args.span.now patterns.patterns c.args.stop.0 c.args.serving.now c.args.served.now.items)
    (sym c.in_ok-push.ensures.items)
    (timed_more patterns.feed c.args.span.now patterns.patterns c.args.stop.0 c.args.serving.now listed _ _
    c.args.served.now.items refl refl refl c.requires c.boardable-boardings.ensures)
