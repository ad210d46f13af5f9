use Rattle.std.proofs.Common.{rules, not, filter, ◌≡◌, ap, sym, ◌∙◌, subst}
use Rattle.std.proofs.lemmas.Fn.{filter_same}
use Rattle.std.proofs.lemmas.List.Kept.{AllPairs-filter}
use Rattle.pareto_front.specs.Fronts.{Apart, IsFront}
use Rattle.pareto_front.proofs.front.Front.thin.Goals as goal

pub returns : goal.returns
returns g c =
    filter_same _ _ _ (λ x b f' k. search rules) _ _ c.retain.ensures.filtered
    ∙ ap (filter (λ member. not (g.E.Ranked.at_most c.args.item.now member))) c.self.view_is

pub invariant_of-self : goal.invariant_of-self
invariant_of-self g c =
    let kept : c.retain.new.self.items ≡ filter (λ member. not (g.E.Ranked.at_most c.args.item.now member)) c.self.inside.kept.items =
    filter_same _ _ _ (λ x b f' k. search rules) _ _ c.retain.ensures.filtered in
    subst (IsFront g.E.Ranked.at_most g.E.Ranked.before) (sym kept)
    (AllPairs-filter (Apart g.E.Ranked.at_most g.E.Ranked.before) (λ member. not (g.E.Ranked.at_most c.args.item.now member)) _ c.self.invariant)
