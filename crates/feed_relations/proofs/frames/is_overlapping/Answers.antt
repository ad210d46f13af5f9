use Rattle.std.proofs.Common.{◌≡◌, false, rules}
use Rattle.std.specs.Option.{MatchOption}
use Rattle.feed_relations.proofs.FrameLaws.{reaches, by_range}
use Rattle.feed_relations.proofs.frames.is_overlapping.Goals as goal

pub returns : goal.returns
returns c = λ table row within none are is.
    let said : MatchOption c.next_back.result (c.is_some_and.result ≡ false) (λ k. c.is_some_and.result ≡ reaches c.args.frame k.now) = search rules in
    by_range table row within none c.args.seen.now are c.args.frame c.range.result _ c.next_back.result c.is_some_and.result is (c.range.ensures.in_range tt) c.next_back.ensures.steps said
