use Rattle.std.proofs.Common.{◌≡◌, subst, sym}
use Rattle.feed_rows.specs.declared.journeys.LegFacts.{LegFacts}
use Rattle.feed_rows.specs.Legs.{leg_facts}
use Rattle.fare_automaton.specs.Known.{KnownPicks}
use Rattle.fare_automaton.specs.Terms.{FareTerms}
use Rattle.fare_timeframes.specs.BuiltTimeframes.{AreTimeframesOf}
use Rattle.leg_kinds.specs.Kinds.{IsOfKind}
use Rattle.ride_kinds.proofs.KindLaws.{kind_like, kinds_more, kinds_still}
use Rattle.ride_kinds.proofs.LegKinds.kind_of.Goals as goal

pub returns-in-Some-clause-kind : goal.returns-in-Some-clause-kind
returns-in-Some-clause-kind c =
    let known = c.self.inside.known in
    let feed = known.terms.feed in
    let like = c.like_ride-like.result in
    let P : KnownPicks → Type 0 = λ k. IsOfKind k.lists (leg_facts k.terms.feed c.args.ride.now) c.in-Some.kind in
    subst P c.self.view_is (kind_like known.lists feed like c.args.ride.now c.in-Some.kind (c.like_ride-like.ensures feed c.self.invariant.0) (c.self.invariant.1 like c.in-Some.kind c.in-Some.ensures))

pub invariant_of-self-in_err-kind : goal.invariant_of-self-in_err-kind
invariant_of-self-in_err-kind c =
    let e = c.know.ensures in (
      subst (λ (t : FareTerms). AreTimeframesOf t.feed c.self.inside.timeframes.now) (sym e.terms) c.self.invariant.0,
      kinds_still c.self.inside.known c.know.new.self c.self.inside.kinds e.terms e.still c.self.invariant.1,
    )

pub invariant_of-self-2 : goal.invariant_of-self-2
invariant_of-self-2 c =
    let e = c.know.ensures in
    let known = c.self.inside.known in
    let like = c.like_ride-like.result in
    let leg = c.in_ok-leg_facts_into.ensures known.terms.feed c.self.invariant.0 in (
      subst (λ (t : FareTerms). AreTimeframesOf t.feed c.self.inside.timeframes.now) (sym e.terms) c.self.invariant.0,
      kinds_more known c.know.new.self c.self.inside.kinds c.put.new.self like c.in_ok-kind.kind e.terms e.still c.self.invariant.1
          (subst (λ (l : LegFacts). IsOfKind c.know.new.self.lists l c.in_ok-kind.kind) leg c.in_ok-kind.ensures.known) c.put.ensures,
    )

pub returns-clause-kind : goal.returns-clause-kind
returns-clause-kind c =
    let known = c.self.inside.known in
    let feed = known.terms.feed in
    let like = c.like_ride-like.result in
    let leg = c.in_ok-leg_facts_into.ensures feed c.self.invariant.0 in
    let P : KnownPicks → Type 0 = λ k. IsOfKind c.know.new.self.lists (leg_facts k.terms.feed c.args.ride.now) c.in_ok-kind.kind in
    subst P c.self.view_is (kind_like c.know.new.self.lists feed like c.args.ride.now c.in_ok-kind.kind (c.like_ride-like.ensures feed c.self.invariant.0)
    (subst (λ (l : LegFacts). IsOfKind c.know.new.self.lists l c.in_ok-kind.kind) leg c.in_ok-kind.ensures.known))
