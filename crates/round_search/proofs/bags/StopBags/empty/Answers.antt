use Rattle.std.proofs.Common.{◌≡◌, sym, ◌∙◌, ap, subst, ◌+◌, [], ◌∷◌, ◌++◌, length, arith}
use Rattle.std.specs.Map.{values_of}
use Rattle.std.specs.Prelude.{None}
use Rattle.std.proofs.lemmas.List.{append-nil, length_push}
use Rattle.plain_laws.proofs.Laws.{joined_below-none}
use Rattle.round_search.specs.Bags.{IsBagOf, bag_at, in_all}
use Rattle.round_search.proofs.BagLaws.{no_bag, none_push}
use Rattle.round_search.proofs.ClassLaws.{no_classes}
use Rattle.round_search.proofs.bags.StopBags.empty.Goals as goal

pub loop-stop-init : goal.loop-stop-init
loop-stop-init g c = record {
  many = ap length c.in_ok-bags.ensures.items;
  none = λ i. ap (λ bags. bag_at bags i) c.in_ok-bags.ensures.items;
}

pub loop-stop-preserved : goal.loop-stop-preserved
loop-stop-preserved g c =
    let bags = c.loop-stop.bags.items in
    let longer = c.in_ok-push.ensures.items ∙ ap (λ bag. bags ++ bag ∷ []) c.empty.ensures in
    record {
      many = ap length longer ∙ length_push bags [] ∙ ap (λ n. n + 1) c.loop-stop.invariant.many;
      none = λ i. ap (λ bs. bag_at bs i) longer ∙ none_push bags c.loop-stop.invariant.none i;
    }

pub invariant_of-result : goal.invariant_of-result
invariant_of-result g c =
    let at_most = g.F.LabelOrder.at_most in
    let same = g.F.Class.PartialEq.eq in
    let class_of = g.F.Classed.class_of in
    record {
      stops = λ stop. subst (IsBagOf at_most same class_of stop None) (sym (c.loop-stop.invariant.none stop))
          (no_bag at_most same class_of stop None);
      classes = no_classes at_most same class_of c.new.result.entries c.new.ensures.empty c.new.ensures.unique;
    }

pub returns-clause-stops : goal.returns-clause-stops
returns-clause-stops g c =
    let all : c.loop-stop._stop ≡ c.args.stops = omega (arith, c.loop-stop-test.false, c.loop-stop.auto._stop-end) in
    c.loop-stop.invariant.many ∙ all

pub returns-clause-none : goal.returns-clause-none
returns-clause-none g c =
    let bags = c.loop-stop.bags.items in
    ap (λ es. in_all bags ++ in_all (values_of es)) c.new.ensures.empty ∙ append-nil (in_all bags)
    ∙ joined_below-none (length bags) (bag_at bags) (λ i lt. c.loop-stop.invariant.none i)
