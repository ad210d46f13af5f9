use Rattle.std.proofs.Common.{◌∙◌, ap, length, length-append, arith}
use Rattle.feed_rows.specs.FeedRows.{FeedRows}
use Rattle.feed_walks.specs.Near.{Reaches}
use Rattle.feed_walks.proofs.PlaceLaws.{groups_more}
use Rattle.feed_walks.proofs.near.reached_of.Goals as goal

pub loop-stop-preserved : goal.loop-stop-preserved
loop-stop-preserved c =
    let is = c.loop-stop.invariant in
    let added = c.in_ok-push.ensures.ok in
    record {
      long = omega (arith, is.long, simp length-append at (ap length added));
      each = groups_more (λ i. Reaches c.args.feed.now (record { 0 = i })) c.loop-stop.reached _ _ c.loop-stop.stop is.long is.each added
          (rw c.as_slice.ensures.value (c.in_ok-reached_from.ensures c.args.feed.now c.requires.rules c.requires.sets));
    }

pub returns : goal.returns
returns c = λ i lt.
    let all = ap length (c.items.ensures.value ∙ ap (λ (feed : FeedRows). feed.stops) c.feed.view_is) in
    c.loop-stop.invariant.each i (omega (arith, all, lt))
