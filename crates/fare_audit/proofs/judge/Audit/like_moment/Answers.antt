use Rattle.std.proofs.Common.{◌≡◌, subst}
use Rattle.feed_rows.specs.Legs.{frames_at}
use Rattle.fare_audit.specs.Found.{AuditOf}
use Rattle.fare_audit.proofs.judge.Audit.like_moment.Goals as goal

pub returns : goal.returns
returns c =
    let P : AuditOf → Type 0 = λ a. frames_at a.feed c.like_moment.result ≡ frames_at a.feed c.args.at in
    subst P c.self.view_is (c.like_moment.ensures c.self.inside.feed.now c.self.invariant.timeframes)
