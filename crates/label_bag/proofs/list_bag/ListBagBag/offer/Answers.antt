use Rattle.std.proofs.Common.{sym, subst, is_ok, ◌++◌, ◌∷◌, [], length, ◌≤◌, arith, ◌∙◌, ap}
use Rattle.std.proofs.lemmas.Bool.{cond_both}
use Rattle.label_bag.specs.Bags.{Gathers, IsUncovered, AreApart, not_above}
use Rattle.label_bag.proofs.BagLaws.{apart-push, takes-push, gathers-covered, gathers-taken, filter-long}
use Rattle.label_bag.proofs.list_bag.ListBagBag.offer.Goals as goal

pub returns-in-Some-clause-gathers : goal.returns-in-Some-clause-gathers
returns-in-Some-clause-gathers g c =
    subst (λ xs. Gathers g.L.LabelOrder.at_most xs (c.args.label ∷ []) xs) c.deref.ensures.value
    (gathers-covered _ c.deref.result.now c.in-Some.number c.args.label c.in-Some.ensures.found.0 (c.in-Some.ensures.found.1 c.args.label))

pub invariant_of-self : goal.invariant_of-self
invariant_of-self g c =
    let bare = subst (λ xs. IsUncovered g.L.LabelOrder.at_most xs c.args.label) c.deref.ensures.value c.in_default.ensures.none in
    record {
      apart = subst (AreApart g.L.LabelOrder.at_most) (sym c.push.ensures.items)
          (cond_both (is_ok c.push.result) _ _ (AreApart g.L.LabelOrder.at_most)
          (λ _. subst (λ xs. AreApart g.L.LabelOrder.at_most (xs ++ c.args.label ∷ [])) (sym c.thin.ensures.members) (apart-push _ _ _ c.args.self.now.apart bare))
          (λ _. c.thin.new.self.apart));
    }

pub returns-in-Ok-clause-kept : goal.returns-in-Ok-clause-kept
returns-in-Ok-clause-kept g c =
    let bare = subst (λ xs. IsUncovered g.L.LabelOrder.at_most xs c.args.label) c.deref.ensures.value c.in_default.ensures.none in
    rw (c.in-Ok.ensures.items, c.thin.ensures.members) (takes-push _ _ _ bare)

pub returns-in-Ok-clause-spare : goal.returns-in-Ok-clause-spare
returns-in-Ok-clause-spare g c = omega (arith, c.push.ensures.capacity, c.push.ensures.upper_bound, c.thin.ensures.len, c.thin.ensures.capacity)

pub returns-in-Ok-clause-gathers : goal.returns-in-Ok-clause-gathers
returns-in-Ok-clause-gathers g c =
    let bare = subst (λ xs. IsUncovered g.L.LabelOrder.at_most xs c.args.label) c.deref.ensures.value c.in_default.ensures.none in
    rw (c.in-Ok.ensures.items, c.thin.ensures.members) (gathers-taken _ g.met.L.LabelOrder.laws _ _ _ (takes-push _ _ _ bare))

pub returns-in-Err-clause-no_room : goal.returns-in-Err-clause-no_room
returns-in-Err-clause-no_room g c =
    let bare = subst (λ xs. IsUncovered g.L.LabelOrder.at_most xs c.args.label) c.deref.ensures.value c.in_default.ensures.none in
    let long : length c.args.self.now.members.items ≤ length (not_above g.L.LabelOrder.at_most c.args.label c.args.self.now.members.items) =
    omega (arith, c.in-Err.ensures.full, c.args.self.now.members.ok.0, c.args.self.now.members.ok.1, c.thin.new.self.members.ok.0, ap length c.thin.ensures.members, c.thin.ensures.capacity) in
    record {
      same = c.in-Err.ensures.value_returned;
      uncovered = bare;
      unchanged = c.in-Err.ensures.items ∙ c.thin.ensures.members ∙ filter-long _ _ long;
      full = omega (arith, c.in-Err.ensures.full, c.thin.ensures.len, c.thin.ensures.capacity);
    }

pub returns-in-Err-clause-spare : goal.returns-in-Err-clause-spare
returns-in-Err-clause-spare g c = omega (arith, c.push.ensures.capacity, c.push.ensures.upper_bound, c.thin.ensures.len, c.thin.ensures.capacity)
