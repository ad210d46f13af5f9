use Rattle.std.proofs.Common.{refl, inl, ap, ◌∙◌, arith}
use Rattle.feed_rows.specs.StopLinks.{stop_set}
use Rattle.feed_rows.specs.declared.journeys.Query.{Query}
use Rattle.plan_plain.proofs.SearchLaws.{earliest_more, earliest_end}
use Rattle.plan_plain.proofs.search.Search.earliest_end.Goals as goal

pub loop-k-init : goal.loop-k-init
loop-k-init c = record {
  least = λ last at among is. let below = among.1 in absurd (omega (arith, below));
  from = inl refl;
}

pub loop-k-preserved : goal.loop-k-preserved
loop-k-preserved c = earliest_more _ _ _ _ _ _ _ _ c.loop-k-test.true c.loop-k.invariant c.earlier-earliest.ensures

pub returns : goal.returns
returns c =
    earliest_end c.args.self.now.feed c.args.self.now.query _ _ c.loop-k.k _
    (c.members-lasts.ensures ∙ ap (λ (q : Query). stop_set c.args.self.now.feed q.to) c.query.ensures.is) c.loop-k-test.false c.loop-k.invariant
