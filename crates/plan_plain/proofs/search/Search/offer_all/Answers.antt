use Rattle.std.proofs.Common.{ap, ◌∙◌}
use Rattle.feed_rows.specs.StopLinks.{stop_set}
use Rattle.feed_rows.specs.declared.journeys.Query.{Query}
use Rattle.plan_plain.proofs.SearchLaws.{gains_first, gains_entries}
use Rattle.plan_plain.proofs.search.Search.offer_all.Goals as goal

pub loop-k-preserved : goal.loop-k-preserved
loop-k-preserved c = record {
  path = c.in_ok-offer_from.ensures.path ∙ c.loop-k.invariant.path;
  gains = gains_first _ _ _ _ _ _ _ _ c.loop-k-test.true c.loop-k.invariant.gains c.in_ok-offer_from.ensures.gains;
}

pub returns : goal.returns
returns c = gains_entries c.args.self.now.feed c.args.self.now.query c.members-firsts.result.now c.loop-k.k c.args.front.now c.loop-k.front (c.members-firsts.ensures ∙ ap (λ (q : Query). stop_set c.args.self.now.feed q.from) c.query.ensures.is) c.loop-k-test.false c.loop-k.invariant.gains
