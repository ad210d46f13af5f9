use Rattle.std.proofs.Common.{◌≡◌, ◌∙◌, ap, length, arith}
use Rattle.plain_laws.specs.Plain.{joined_below}
use Rattle.feed_walks.proofs.StepLaws.{step_at, steps_exact}
use Rattle.feed_walks.proofs.steps.steps_to.Goals as goal

pub returns : goal.returns
returns c =
    let all : c.loop-to.to-index ≡ length c.args.near.now = omega (arith, c.loop-to-test.false) in
    c.loop-to.invariant ∙ ap (λ n. joined_below n (step_at c.args.feed.now c.args.from c.args.near.now)) all ∙ steps_exact c.args.feed.now c.args.from c.args.near.now c.requires.near
