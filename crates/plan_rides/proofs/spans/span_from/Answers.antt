use Rattle.std.proofs.Common.{◌≡◌, ◌-ℤ◌, get_or, pos, subst, sym, true}
use Rattle.feed_walks.specs.declared.steps.Step.{Step}
use Rattle.plan_rides.specs.Cutoffs.{is_span}
use Rattle.plan_rides.proofs.SpanLaws.{walks_more}
use Rattle.plan_rides.proofs.spans.span_from.Goals as goal

pub loop-k-preserved : goal.loop-k-preserved
loop-k-preserved c =
    let none : Step = record { to = record { 0 = 0 }; seconds = record { 0 = 0 } } in
    record {
      own = λ secs is. c.shorter-span.ensures.one secs (c.loop-k.invariant.own secs is);
      walks = walks_more c.args.window c.args.boards.now c.walks_from-walks.result.now c.loop-k.k none
          c.loop-k.span c.shorter-span.result
          c.loop-k-test.true c.shorter-span.ensures.one
          (λ secs few is. c.shorter-span.ensures.other secs (c.behind_walk.ensures secs few
          (subst (λ o. is_span o (secs -ℤ pos (get_or c.walks_from-walks.result.now c.loop-k.k none).seconds.0) ≡ true)
          (sym c.span_at.ensures) is)))
          c.loop-k.invariant.walks;
    }
