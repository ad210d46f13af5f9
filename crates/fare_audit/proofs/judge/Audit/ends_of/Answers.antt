use Rattle.std.proofs.Common.{◌∙◌, ap, length, arith, ◌+◌}
use Rattle.std.proofs.lemmas.List.{length_push}
use Rattle.fare_audit.proofs.RunLaws.{ends_more}
use Rattle.fare_audit.proofs.judge.Audit.ends_of.Goals as goal

pub loop-position-preserved : goal.loop-position-preserved
loop-position-preserved c =
    let was = c.loop-position.invariant in
    record {
      many = ap length c.in_ok-push.ensures.items ∙ length_push _ _ ∙ ap (λ n. n + 1) was.many;
      each = ends_more c.args.self.now.feed c.args.run.now c.args.calls.now c.loop-position.ends.items _ c.loop-position.position c.at.result _ was.many was.each c.at.ensures c.end_of.ensures c.in_ok-push.ensures.items;
    }

pub returns : goal.returns
returns c =
    let low = c.loop-position.auto.position-end in
    let high = c.loop-position-test.false in
    let many = c.loop-position.invariant.many in
    let long = c.len-position-end.ensures in
    record { many = omega (arith, low, high, many, long); each = c.loop-position.invariant.each }
