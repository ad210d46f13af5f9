use Rattle.std.proofs.Common.{◌∙◌, refl, ap, subst, sym, List, ℕ, length, slice_index_or, arith}
use Rattle.std.proofs.lemmas.List.{length_push}
use Rattle.std.proofs.lemmas.Option.{slice_get-get_or}
use Rattle.feed_rows.specs.Legs.{leg_facts}
use Rattle.fare_automaton.specs.Terms.{FareTerms}
use Rattle.leg_kinds.specs.Kinds.{IsOfKind}
use Rattle.fare_tariff.specs.Groups.{FitKinds}
use Rattle.fare_tariff.proofs.KindLaws.{fit_none, fit_still, fit_more, no_ride}
use Rattle.fare_tariff.proofs.groups.find_kinds.Goals as goal

pub loop-k-init : goal.loop-k-init
loop-k-init c = record {
  many = ap (λ (ks : List ℕ). length ks) c.clear.ensures.items;
  fit = subst (FitKinds c.args.known.now.terms.feed c.args.known.now c.args.rides.now) (sym c.clear.ensures.items)
      (fit_none c.args.known.now.terms.feed c.args.rides.now c.args.known.now);
  terms = refl;
  still = λ leg number is. is;
}

pub loop-k-preserved : goal.loop-k-preserved
loop-k-preserved c =
    let feed = c.args.known.now.terms.feed in
    let rides = c.args.rides.now in
    let k = c.loop-k.k in
    let was = c.loop-k.invariant in
    let kinds = c.loop-k.kinds.items in
    let kind = c.in_ok-kind.kind in
    let known = c.kind_of.new.self in
    let fit = fit_more feed rides known kinds k kind (slice_index_or rides k no_ride) was.many
    (slice_get-get_or rides k no_ride c.loop-k-test.true)
    (subst (λ (t : FareTerms). IsOfKind known.lists (leg_facts t.feed (slice_index_or rides k no_ride).facts) kind) was.terms
    c.in_ok-kind.ensures.kind)
    (fit_still feed rides c.loop-k.known known kinds c.in_ok-kind.ensures.still was.fit) in
    let items = c.in_ok-push.ensures.items in
    let long = length_push kinds kind in
    record {
      many = ap length items ∙ omega (arith, long, was.many);
      fit = subst (FitKinds feed known rides) (sym items) fit;
      terms = c.in_ok-kind.ensures.terms ∙ was.terms;
      still = λ leg number is. c.in_ok-kind.ensures.still leg number (was.still leg number is);
    }

pub returns-clause-kinds : goal.returns-clause-kinds
returns-clause-kinds c = record {
  many = omega (arith, c.loop-k.invariant.many, c.loop-k-test.false);
  fit = c.loop-k.invariant.fit;
}
