use Rattle.std.proofs.Common.{rules, not, ◌≡◌, rules}
use Rattle.std.proofs.lemmas.Fn.{filter_same}
use Rattle.std.proofs.lemmas.List.Kept.{AllPairs-filter}
use Rattle.label_bag.specs.Bags.{Apart, not_above}
use Rattle.label_bag.proofs.list_bag.ListBag.thin.Goals as goal

pub returns-clause-members : goal.returns-clause-members
returns-clause-members g c = filter_same _ _ _ (λ x b f' k. search rules) _ _ c.retain.ensures.filtered

pub invariant_of-self : goal.invariant_of-self
invariant_of-self g c =
    let kept : c.retain.new.self.items ≡ not_above g.L.LabelOrder.at_most c.args.label.now c.args.self.now.members.items =
    filter_same _ _ _ (λ x b f' k. search rules) _ _ c.retain.ensures.filtered in
    record { apart = rw kept (AllPairs-filter (Apart g.L.LabelOrder.at_most) (λ m. not (g.L.LabelOrder.at_most c.args.label.now m)) _ c.args.self.now.apart) }
