use Rattle.std.proofs.Common.{◌≡◌, sym, ◌∙◌, ap, subst, [], ◌∷◌, ◌++◌, length, true}
use Rattle.std.specs.List.{IsDistinct}
use Rattle.std.specs.Map.{keys_of, values_of}
use Rattle.std.specs.Option.{is_some}
use Rattle.std.specs.Prelude.{OnOk, Some, slice_set}
use Rattle.std.proofs.lemmas.Option.{get_or_from_slice_get, same_Some, slice_get_within}
use Rattle.std.proofs.lemmas.Result.{on_ok_weaker}
use Rattle.indexmap.specs.Layout.{set_value_at}
use Rattle.indexmap.proofs.CallerLemmas.{insert_entry-new}
use Rattle.label_bag.specs.Bags.{IsUncovered, covers as has_cover}
use Rattle.search_laws.specs.Stores.{Takes}
use Rattle.round_search.specs.Bags.{AreClassBags, IsBagOf, IsOf, bag_at, in_all, in_bags}
use Rattle.round_terms.specs.Classes.{same_key}
use Rattle.round_terms.specs.CoverLaws.{cover_laws}
use Rattle.round_terms.specs.Labels.{covers}
use Rattle.round_search.proofs.BagLaws.{each_after, one_bag, takes_set}
use Rattle.round_search.proofs.ClassLaws.{classes_push, classes_set, found_bag, in_push_values, key_of, none_there, of_same_key, own_key, set_values}
use Rattle.round_search.proofs.TakeLaws.{covered_joined, takes_none, takes_push, takes_second, uncovered_of}
use Rattle.round_search.proofs.bags.StopBags.offer_in_class.Goals as goal

-- ---- there is a bag of the stop and class

pub covers-requires : goal.covers-requires
covers-requires g c =
    (found_bag g.F.LabelOrder.at_most g.F.Class.PartialEq.eq g.F.Classed.class_of c.self.inside.classes.entries
    (key_of c.args.class c.args.label.now) c.in-Some.number c.index.result.now c.self.invariant.classes
    (sym c.get_index_of.ensures.index ∙ c.in-Some.is) c.index.ensures).3.bag

pub returns-then-covers-clause-takes : goal.returns-then-covers-clause-takes
returns-then-covers-clause-takes g c =
    let covers = covers g.F.LabelOrder.at_most in
    let label = c.args.label.now in
    let number = c.in-Some.number in
    let stops = in_all c.self.inside.stops.items in
    let bags = values_of c.self.inside.classes.entries in
    subst (λ bs. Takes covers (in_bags bs) label (in_bags bs)) c.self.view_is
    (takes_second covers stops (in_all bags) (in_all bags) label
    (takes_none covers (in_all bags) label
    (covered_joined covers (length bags) number (bag_at bags) label (slice_get_within bags number c.index.result.now c.index.ensures)
    (subst (λ ms. has_cover covers ms label ≡ true) (sym (get_or_from_slice_get bags number c.index.result.now [] c.index.ensures))
    (sym c.covers.ensures ∙ c.if-covers.true)))))

pub add-requires-clause-bag : goal.add-requires-clause-bag
add-requires-clause-bag g c =
    (found_bag g.F.LabelOrder.at_most g.F.Class.PartialEq.eq g.F.Classed.class_of c.self.inside.classes.entries
    (key_of c.args.class c.args.label.now) c.in-Some.number c.index_mut.result.now c.self.invariant.classes
    (sym c.get_index_of.ensures.index ∙ c.in-Some.is) c.index_mut.ensures.value).3.bag

pub add-requires-clause-uncovered : goal.add-requires-clause-uncovered
add-requires-clause-uncovered g c =
    let covers = covers g.F.LabelOrder.at_most in
    let same = same_Some c.index.result.now c.index_mut.result.now (sym c.index.ensures ∙ c.index_mut.ensures.value) in
    subst (λ ms. IsUncovered covers ms c.args.label.now) same
    (uncovered_of covers c.index.result.now c.args.label.now (sym c.covers.ensures ∙ c.if-covers.false))

pub invariant_of-self : goal.invariant_of-self
invariant_of-self g c =
    let at_most = g.F.LabelOrder.at_most in
    let same = g.F.Class.PartialEq.eq in
    let class_of = g.F.Classed.class_of in
    let bags = c.self.inside.classes.entries in
    let old = c.index_mut.result.now in
    let new = c.add.new.self in
    let found = found_bag at_most same class_of bags (key_of c.args.class c.args.label.now) c.in-Some.number old c.self.invariant.classes
    (sym c.get_index_of.ensures.index ∙ c.in-Some.is) c.index_mut.ensures.value in
    let Own = IsOf same class_of found.0.stop (Some found.0.class) in
    record {
      stops = c.self.invariant.stops;
      classes = classes_set at_most same class_of bags c.in-Some.number found.0 new found.1 c.self.invariant.classes (record {
        bag = c.add.ensures.bag;
        each = each_after (covers at_most) Own c.add.result old new c.args.label.now found.3.each
            (of_same_key at_most same class_of c.args.class found.0 c.args.label.now c.requires found.2) c.add.ensures.gathers
            c.add.ensures.err;
      });
    }

pub returns-else-covers-clause-takes : goal.returns-else-covers-clause-takes
returns-else-covers-clause-takes g c =
    let covers = covers g.F.LabelOrder.at_most in
    let label = c.args.label.now in
    let number = c.in-Some.number in
    let stops = in_all c.self.inside.stops.items in
    let entries = c.self.inside.classes.entries in
    let bags = values_of entries in
    let old = c.index_mut.result.now in
    let new = c.add.new.self in
    let after = in_all (slice_set bags number new) in
    subst (λ bs. OnOk c.add.result (Takes covers (in_bags bs) label (stops ++ in_all (values_of (set_value_at entries number new)))))
    c.self.view_is
    (subst (λ vs. OnOk c.add.result (Takes covers (stops ++ in_all bags) label (stops ++ in_all vs))) (sym (set_values entries number new))
    (on_ok_weaker c.add.result (takes_second covers stops (in_all bags) after label)
    (takes_set covers bags number new (slice_get_within bags number old c.index_mut.ensures.value) c.add.result old label
    (sym (get_or_from_slice_get bags number old [] c.index_mut.ensures.value)) c.add.ensures.gathers c.add.ensures.keeps)))

-- ---- there is none yet

pub invariant_of-self-in_err-insert-in-None : goal.invariant_of-self-in_err-insert-in-None
invariant_of-self-in_err-insert-in-None g c =
    record {
      stops = c.self.invariant.stops;
      classes = subst (AreClassBags g.F.LabelOrder.at_most g.F.Class.PartialEq.eq g.F.Classed.class_of)
          (sym c.in_err-insert-in-None.ensures.err) c.self.invariant.classes;
    }

pub invariant_of-self-in-None : goal.invariant_of-self-in-None
invariant_of-self-in-None g c =
    let at_most = g.F.LabelOrder.at_most in
    let same = g.F.Class.PartialEq.eq in
    let class_of = g.F.Classed.class_of in
    let label = c.args.label.now in
    let entries = c.self.inside.classes.entries in
    let bag = c.in_ok-bag-in-None.bag in
    let none = none_there _ (sym c.get_index_of.ensures.found ∙ ap is_some c.in-None.is) in
    let key = key_of c.args.class label in
    let longer = c.in_ok-insert-in-None.ensures.entries ∙ insert_entry-new (same_key same) c.self.inside.classes key bag none in
    record {
      stops = c.self.invariant.stops;
      classes = subst (AreClassBags at_most same class_of) (sym longer)
          (classes_push at_most same class_of entries key bag c.self.invariant.classes
          (subst (IsBagOf at_most same class_of label.stop.0 (Some c.args.class)) (sym c.in_ok-bag-in-None.ensures)
          (one_bag at_most same class_of label.stop.0 (Some c.args.class) label
          (own_key at_most same class_of g.met.F.Class.Eq.laws c.args.class label c.requires)))
          (subst (λ es. IsDistinct (same_key same) (keys_of es)) longer c.insert.ensures.unique));
    }

pub returns-in_ok-insert-in-None-clause-takes : goal.returns-in_ok-insert-in-None-clause-takes
returns-in_ok-insert-in-None-clause-takes g c =
    let at_most = g.F.LabelOrder.at_most in
    let same = g.F.Class.PartialEq.eq in
    let covers = covers at_most in
    let label = c.args.label.now in
    let stops = in_all c.self.inside.stops.items in
    let entries = c.self.inside.classes.entries in
    let bags = in_all (values_of entries) in
    let bag = c.in_ok-bag-in-None.bag in
    let none = none_there _ (sym c.get_index_of.ensures.found ∙ ap is_some c.in-None.is) in
    let key = key_of c.args.class label in
    let longer = c.in_ok-insert-in-None.ensures.entries ∙ insert_entry-new (same_key same) c.self.inside.classes key bag none in
    let is = ap (λ es. in_all (values_of es)) longer ∙ in_push_values entries key bag label c.in_ok-bag-in-None.ensures in
    subst (λ bs. Takes covers (in_bags bs) label (stops ++ in_all (values_of c.insert.new.self.entries))) c.self.view_is
    (subst (λ ls. Takes covers (stops ++ bags) label (stops ++ ls)) (sym is)
    (takes_second covers stops bags (bags ++ label ∷ []) label
    (takes_push covers (cover_laws at_most g.met.F.LabelOrder.laws).reflexive bags label)))
