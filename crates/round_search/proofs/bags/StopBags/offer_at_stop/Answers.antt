use Rattle.std.proofs.Common.{◌≡◌, refl, sym, ◌∙◌, subst, ◌<◌, [], ◌++◌, length, true}
use Rattle.std.specs.Map.{values_of}
use Rattle.std.specs.Option.{option_eq}
use Rattle.std.specs.Prelude.{All, None, OnOk, slice_set}
use Rattle.std.proofs.lemmas.List.{get_or_default}
use Rattle.std.proofs.lemmas.Result.{on_ok_weaker}
use Rattle.label_bag.specs.Bags.{IsUncovered, covers as has_cover}
use Rattle.search_laws.specs.Stores.{Takes}
use Rattle.round_search.specs.Bags.{IsBag, IsBagOf, IsOf, in_all, in_bags}
use Rattle.round_terms.specs.Labels.{covers}
use Rattle.round_search.proofs.BagLaws.{bags_set, each_after, takes_set}
use Rattle.round_search.proofs.TakeLaws.{covered_joined, takes_first, takes_none, uncovered_of}
use Rattle.round_search.proofs.bags.StopBags.offer_at_stop.Goals as goal

pub covers-requires : goal.covers-requires
covers-requires g c =
    let bags = c.self.inside.stops.items in
    let stop = c.args.label.now.stop.0 in
    let lt : stop < length bags = subst (λ bs. stop < length bs.stops) (sym c.self.view_is) c.requires.stop in
    subst (IsBag g.F.LabelOrder.at_most) (sym (c.index.ensures ∙ get_or_default bags stop c.index.result.now [] lt))
    (c.self.invariant.stops stop).bag

pub returns-then-covers-clause-takes : goal.returns-then-covers-clause-takes
returns-then-covers-clause-takes g c =
    let bags = c.self.inside.stops.items in
    let stop = c.args.label.now.stop.0 in
    let covers = covers g.F.LabelOrder.at_most in
    let lt : stop < length bags = subst (λ bs. stop < length bs.stops) (sym c.self.view_is) c.requires.stop in
    let there = c.index.ensures ∙ get_or_default bags stop c.index.result.now [] lt in
    subst (λ bs. Takes covers (in_bags bs) c.args.label.now (in_bags bs)) c.self.view_is
    (takes_first covers (in_all bags) (in_all (values_of c.self.inside.classes.entries)) (in_all bags) c.args.label.now
    (takes_none covers (in_all bags) c.args.label.now
    (covered_joined covers (length bags) stop _ c.args.label.now lt
    (subst (λ ms. has_cover covers ms c.args.label.now ≡ true) there (sym c.covers.ensures ∙ c.if-covers.true)))))

pub add-requires-clause-bag : goal.add-requires-clause-bag
add-requires-clause-bag g c =
    let bags = c.self.inside.stops.items in
    let stop = c.args.label.now.stop.0 in
    let lt : stop < length bags = subst (λ bs. stop < length bs.stops) (sym c.self.view_is) c.requires.stop in
    subst (IsBag g.F.LabelOrder.at_most) (sym (c.index_mut.ensures.value ∙ get_or_default bags stop c.index_mut.result.now [] lt))
    (c.self.invariant.stops stop).bag

pub add-requires-clause-uncovered : goal.add-requires-clause-uncovered
add-requires-clause-uncovered g c =
    let bags = c.self.inside.stops.items in
    let stop = c.args.label.now.stop.0 in
    let lt : stop < length bags = subst (λ bs. stop < length bs.stops) (sym c.self.view_is) c.requires.stop in
    let same = c.index.ensures ∙ get_or_default bags stop c.index.result.now c.index_mut.result.now lt ∙ sym c.index_mut.ensures.value in
    subst (λ ms. IsUncovered (covers g.F.LabelOrder.at_most) ms c.args.label.now) same
    (uncovered_of (covers g.F.LabelOrder.at_most) c.index.result.now c.args.label.now (sym c.covers.ensures ∙ c.if-covers.false))

pub invariant_of-self : goal.invariant_of-self
invariant_of-self g c =
    let bags = c.self.inside.stops.items in
    let stop = c.args.label.now.stop.0 in
    let at_most = g.F.LabelOrder.at_most in
    let same = g.F.Class.PartialEq.eq in
    let class_of = g.F.Classed.class_of in
    let lt : stop < length bags = subst (λ bs. stop < length bs.stops) (sym c.self.view_is) c.requires.stop in
    let there = c.index_mut.ensures.value ∙ get_or_default bags stop c.index_mut.result.now [] lt in
    record {
      stops = bags_set (λ i ms. IsBagOf at_most same class_of i None ms) bags stop c.add.new.self lt c.self.invariant.stops (record {
        bag = c.add.ensures.bag;
        each = each_after (covers at_most) (IsOf same class_of stop None) c.add.result c.index_mut.result.now c.add.new.self
            c.args.label.now (subst (All (IsOf same class_of stop None)) (sym there) (c.self.invariant.stops stop).each)
            (record { there = refl; classed = subst (λ o. option_eq same o None ≡ true) (sym c.requires.class) refl })
            c.add.ensures.gathers c.add.ensures.err;
      });
      classes = c.self.invariant.classes;
    }

pub returns-clause-takes : goal.returns-clause-takes
returns-clause-takes g c =
    let bags = c.self.inside.stops.items in
    let others = in_all (values_of c.self.inside.classes.entries) in
    let stop = c.args.label.now.stop.0 in
    let covers = covers g.F.LabelOrder.at_most in
    let lt : stop < length bags = subst (λ bs. stop < length bs.stops) (sym c.self.view_is) c.requires.stop in
    let there = c.index_mut.ensures.value ∙ get_or_default bags stop c.index_mut.result.now [] lt in
    let new = in_all (slice_set bags stop c.add.new.self) in
    subst (λ bs. OnOk c.add.result (Takes covers (in_bags bs) c.args.label.now (new ++ others))) c.self.view_is
    (on_ok_weaker c.add.result (takes_first covers (in_all bags) others new c.args.label.now)
    (takes_set covers bags stop c.add.new.self lt c.add.result c.index_mut.result.now c.args.label.now there c.add.ensures.gathers
    c.add.ensures.keeps))
