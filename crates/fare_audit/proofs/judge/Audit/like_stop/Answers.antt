use Rattle.std.proofs.Common.{◌≡◌, subst}
use Rattle.feed_rows.specs.Legs.{stop_areas}
use Rattle.fare_audit.specs.Found.{AuditOf}
use Rattle.fare_audit.proofs.judge.Audit.like_stop.Goals as goal

pub returns : goal.returns
returns c =
    let P : AuditOf → Type 0 = λ a. stop_areas a.feed c.like_stop.result ≡ stop_areas a.feed c.args.stop in
    subst P c.self.view_is (c.like_stop.ensures c.self.inside.feed.now c.self.invariant.timeframes)
