use Rattle.std.proofs.Common.{◌≡◌, ◌∙◌, ap, length, arith}
use Rattle.feed_rows.specs.FeedRows.{FeedRows}
use Rattle.plain_laws.specs.Plain.{list_below}
use Rattle.feed_walks.specs.OutOf.{out_of, walk_steps}
use Rattle.feed_walks.proofs.steps.steps_of.Goals as goal

pub returns : goal.returns
unfolding walk_steps
returns c =
    let stops = ap length (c.items.ensures.value ∙ ap (λ (feed : FeedRows). feed.stops) c.feed.view_is) in
    let all : c.loop-from.from ≡ length c.args.feed.now.stops = omega (arith, stops) in
    c.loop-from.invariant ∙ ap (λ n. list_below n (λ i. out_of c.args.feed.now (record { 0 = i }))) all
