use Rattle.std.proofs.Common.{◌∙◌, ap, sym, length, ◌&&◌, arith}
use Rattle.plain_laws.specs.Plain.{at_and}
use Rattle.plain_laws.proofs.Laws.{any_below_hit}
use Rattle.plan_patterns.specs.Runs.{alights_in_time, is_boarded}
use Rattle.plan_patterns.proofs.runs.has_ride.Goals as goal

pub returns-then-ends_at : goal.returns-then-ends_at
returns-then-ends_at c =
    let alights = at_and c.args.calls.now c.loop-at.at (alights_in_time c.args.span.now c.args.run.now) in
    let here = ap (λ b. b && alights) (sym c.loop-at.invariant.boarded) ∙ sym c.ends_at.ensures ∙ c.if-ends_at.true in
    sym (any_below_hit (λ to. is_boarded c.args.span.now c.args.run.now c.args.calls.now to && at_and c.args.calls.now to (alights_in_time c.args.span.now c.args.run.now)) (length c.args.calls.now) c.loop-at.at (omega (arith, c.loop-at-test.true, c.len-at-end.ensures)) here)
