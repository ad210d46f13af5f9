use Rattle.std.proofs.Common.{◌≡◌, ◌⊎◌, sym, subst, ap, ◌∙◌, is_ok, insert, filter, not, rules}
use Rattle.std.proofs.lemmas.Bool.{cond_both}
use Rattle.std.specs.Prelude.{All, Contains}
use Rattle.pareto_front.specs.Fronts.{IsFront, CoversAll}
use Rattle.pareto_front.proofs.FrontLaws.{front-offer, covers_all-offer, from-offer, from-thinned}
use Rattle.pareto_front.proofs.front.Front.offer.Goals as goal

pub returns-clause-still : goal.returns-clause-still
returns-clause-still g c =
    let is : c.insert.new.self.items ≡ insert (filter (λ x. not (g.E.Ranked.at_most c.args.item x)) c.args.self.now) c.place-place.result c.args.item =
    c.in_ok-insert.ensures.items ∙ ap (λ ys. insert ys c.place-place.result c.args.item) (c.self.view_is ∙ c.thin.ensures) in
    subst (CoversAll g.E.Ranked.at_most c.args.self.now) (sym is) (covers_all-offer _ _ g.met.E.Ranked.laws _ _ _)

pub returns-clause-from : goal.returns-clause-from
returns-clause-from g c =
    subst (λ ys. All (λ x. Contains c.args.self.now x ⊎ (x ≡ c.args.item)) ys) (sym c.in_ok-insert.ensures.items)
    (from-offer (λ x. not (g.E.Ranked.at_most c.args.item x)) c.args.self.now c.self.inside.kept.items c.place-place.result c.args.item (c.self.view_is ∙ c.thin.ensures))

pub returns-in_err-insert-clause-err : goal.returns-in_err-insert-clause-err
returns-in_err-insert-clause-err g c =
    let err = c.from_residual.ensures.0 in
    let is : c.insert.new.self.items ≡ filter (λ x. not (g.E.Ranked.at_most c.args.item x)) c.args.self.now =
    c.in_err-insert.ensures.items ∙ c.self.view_is ∙ c.thin.ensures in
    let all = from-thinned (λ x. not (g.E.Ranked.at_most c.args.item x)) c.args.self.now c.insert.new.self.items is in
    search (rules, all)

pub invariant_of-self-2 : goal.invariant_of-self-2
invariant_of-self-2 g c =
    subst (IsFront g.E.Ranked.at_most g.E.Ranked.before) (sym c.insert.ensures.items)
    (cond_both (is_ok c.insert.result) _ _ (IsFront g.E.Ranked.at_most g.E.Ranked.before)
    (λ _. subst (λ ys. IsFront g.E.Ranked.at_most g.E.Ranked.before (insert ys c.place-place.result c.args.item)) (sym c.self.view_is)
    (front-offer _ _ g.met.E.Ranked.laws _ _ _ _ c.thin.ensures (sym c.if-covers.ensures) c.place-place.ensures.inside
    (subst (IsFront g.E.Ranked.at_most g.E.Ranked.before) c.self.view_is c.self.invariant)
    c.place-place.ensures.earlier c.place-place.ensures.later))
    (λ _. c.self.invariant))
