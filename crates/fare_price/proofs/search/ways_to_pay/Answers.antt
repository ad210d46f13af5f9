use Rattle.std.proofs.Common.{◌≡◌, refl, sym, subst, ℕ, ◌+◌, ◌-◌, List, length, take, take_all, arith}
use Rattle.std.proofs.lemmas.Option.{slice_get_read}
use Rattle.feed_rows.specs.declared.journeys.LegFacts.{LegFacts}
use Rattle.feed_rows.specs.SoundFeed.{IsSoundFeed}
use Rattle.fare_automaton.specs.Fewest.{AreEnough}
use Rattle.fare_automaton.specs.Terms.{FareTerms}
use Rattle.fare_price.specs.Ways.{AreFirstWays, AreNextWays, AreWaysOf}
use Rattle.fare_price.proofs.KnownLaws.{kind_at}
use Rattle.fare_price.proofs.LayerLaws.{first_layer-take, next_layer-take, ways_bounded}
use Rattle.fare_price.proofs.search.ways_to_pay.Goals as goal

pub first_ways-requires : goal.first_ways-requires
first_ways-requires c = record {
  enough =
      subst (λ (t : FareTerms). AreEnough t.feed t.buyer c.index-legs-0.result c.options.result.now) (sym c.automaton-automaton.ensures)
      (c.options.ensures c.index-legs-0.result
      (kind_at c.args.known.now.lists c.args.legs.now c.args.numbers.now 0 _ c.index-legs-0.result c.requires.known
      (slice_get_read c.args.legs.now (length c.args.legs.now) 0 c.index-legs-0.result refl c.requires.some c.index-legs-0.is) refl));
}

pub next_ways-requires-clause-enough : goal.next_ways-requires-clause-enough
next_ways-requires-clause-enough c =
    subst (λ (t : FareTerms). AreEnough t.feed t.buyer c.index-legs-number.result c.options-options.result.now) (sym c.automaton-automaton.ensures)
    (c.options-options.ensures c.index-legs-number.result
    (kind_at c.args.known.now.lists c.args.legs.now c.args.numbers.now (c.loop-number.number + 1) _ c.index-legs-number.result c.requires.known
    (slice_get_read c.args.legs.now (length c.args.legs.now) (c.loop-number.number + 1) c.index-legs-number.result refl
    (omega arith) c.index-legs-number.is) refl))

pub next_ways-requires-clause-bounded : goal.next_ways-requires-clause-bounded
next_ways-requires-clause-bounded c = ways_bounded _ _ _ _ _ c.loop-number.number 11 c.loop-number.invariant (omega arith)

pub loop-number-init : goal.loop-number-init
loop-number-init c =
    first_layer-take c.args.known.now.terms.feed c.args.known.now.terms.buyer c.args.legs.now c.index-legs-0.result c.args.steps.now.items
    c.in_ok-ways.ways (subst (λ (t : FareTerms). IsSoundFeed t.feed) c.automaton-automaton.ensures c.feed-feed.ensures.sound)
    (slice_get_read c.args.legs.now (length c.args.legs.now) 0 c.index-legs-0.result refl c.requires.some c.index-legs-0.is)
    (subst (λ (t : FareTerms). AreFirstWays t.feed t.buyer c.index-legs-0.result c.in_ok-ways.ways) c.automaton-automaton.ensures c.in_ok-ways.ensures)

pub loop-number-preserved : goal.loop-number-preserved
loop-number-preserved c =
    next_layer-take c.args.known.now.terms.feed c.args.known.now.terms.buyer c.args.legs.now c.index-legs-number.result
    c.loop-number.steps.items c.loop-number.ways c.loop-number.number c.in_ok-ways-2.ways c.next_ways.new.steps.items
    (subst (λ (t : FareTerms). IsSoundFeed t.feed) c.automaton-automaton.ensures c.feed-feed.ensures.sound)
    (slice_get_read c.args.legs.now (length c.args.legs.now) (c.loop-number.number + 1) c.index-legs-number.result refl
    (omega arith) c.index-legs-number.is)
    c.loop-number.invariant
    (subst (λ (t : FareTerms). AreNextWays t.feed t.buyer c.index-legs-number.result (length c.loop-number.steps.items) c.loop-number.ways
    (length c.loop-number.ways) c.in_ok-ways-2.ways) c.automaton-automaton.ensures c.in_ok-ways-2.ensures.next)
    c.in_ok-ways-2.ensures.kept

pub returns : goal.returns
returns c =
    let last : c.loop-number.number ≡ length c.args.legs.now - 1 = omega arith in
    let all : take (c.loop-number.number + 1) c.args.legs.now ≡ c.args.legs.now =
    take_all (c.loop-number.number + 1) c.args.legs.now (omega arith) in
    let terms = c.args.known.now.terms in
    subst (λ (n : ℕ). AreWaysOf terms.feed terms.buyer c.args.legs.now c.loop-number.steps.items n c.loop-number.ways) last
    (subst (λ (legs : List LegFacts). AreWaysOf terms.feed terms.buyer legs c.loop-number.steps.items
    c.loop-number.number c.loop-number.ways) all c.loop-number.invariant)
