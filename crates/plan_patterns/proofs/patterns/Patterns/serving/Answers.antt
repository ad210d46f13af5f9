use Rattle.std.proofs.Common.{◌≡◌, ◌∙◌, sym, ap, subst, ◌<◌, length}
use Rattle.plan_patterns.specs.Grouping.{PatternsOf, halts_by_pattern}
use Rattle.plan_patterns.specs.Servings.{servings_at}
use Rattle.plan_patterns.proofs.GroupingLaws.{same_halts}
use Rattle.plan_patterns.proofs.patterns.Patterns.serving.Goals as goal

pub returns : goal.returns
returns c =
    let within = subst (λ (v : PatternsOf). c.args.stop.0 < length v.feed.stops) (sym c.self.view_is) c.requires in
    subst (λ (v : PatternsOf). c.get.result.now ≡ servings_at (halts_by_pattern v.patterns) c.args.stop.0) c.self.view_is
    (c.get.ensures ∙ c.self.invariant.2.each c.args.stop.0 within ∙ ap (λ ps. servings_at ps c.args.stop.0) (sym (same_halts c.self.inside.patterns.items)))
