use Rattle.std.specs.List.{list_all}
use Rattle.std.specs.Prelude.{nat_le}
use Rattle.std.proofs.Common.{◌∙◌, ◌&&◌, ap, take_all}
use Rattle.fare_leg_rules.specs.declared.places.PlacedRule.{PlacedRule}
use Rattle.fare_leg_rules.specs.Fits.{weight_of, is_within}
use Rattle.fare_leg_rules.proofs.RuleLaws.{top_more}
use Rattle.fare_leg_rules.proofs.LegRules.top_among.Goals as goal

pub loop-placed-preserved : goal.loop-placed-preserved
loop-placed-preserved c = λ priority.
    top_more (λ (p : PlacedRule). weight_of c.args.self.now c.args.leg.now p.rule) c.args.among.now c.loop-placed.placed-index _ c.args.least c.loop-placed.top c.weight_of.result _ priority
    c.loop-placed-test.true (c.loop-placed.invariant priority) c.weight_of.ensures c.max-top.ensures

pub returns : goal.returns
returns c = λ priority.
    c.loop-placed.invariant priority
    ∙ ap (λ among. nat_le c.args.least priority && list_all (is_within c.args.self.now c.args.leg.now priority) among)
    (take_all c.loop-placed.placed-index c.args.among.now c.loop-placed-test.false)
