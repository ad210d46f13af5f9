use Rattle.std.proofs.Common.{◌≡◌, subst, ℕ, length, arith}
use Rattle.plain_laws.proofs.Laws.{All-slice_get}
use Rattle.fare_price.specs.Ways.{AreNextWays, IsBounded}
use Rattle.fare_price.proofs.LayerLaws.{next_none, next_more}
use Rattle.fare_price.proofs.search.next_ways.Goals as goal

pub loop-number-init : goal.loop-number-init
loop-number-init c =
    next_none c.args.automaton.now.feed c.args.automaton.now.buyer c.args.leg.now c.len-base.result c.args.ways.now c.empty-next.result
    c.empty-next.ensures

pub loop-number-preserved : goal.loop-number-preserved
loop-number-preserved c =
    next_more c.args.automaton.now.feed c.args.automaton.now.buyer c.args.leg.now c.len-base.result c.args.ways.now c.loop-number.number
    c.get.result.now c.loop-number.next c.offer_after.new.next c.get.ensures c.loop-number.invariant c.in_ok-offer_after.ensures

pub returns-clause-next : goal.returns-clause-next
returns-clause-next c =
    let all : c.loop-number.number ≡ length c.args.ways.now = omega arith in
    let counted : c.len-base.result ≡ length c.args.steps.now.items = omega (arith, c.len-base.ensures, c.args.steps.now.ok.0) in
    let next = AreNextWays c.args.automaton.now.feed c.args.automaton.now.buyer c.args.leg.now in
    subst (λ (base : ℕ). next base c.args.ways.now (length c.args.ways.now) c.loop-number.next) counted
    (subst (λ (n : ℕ). next c.len-base.result c.args.ways.now n c.loop-number.next) all c.loop-number.invariant)

pub offer_after-requires-clause-bounded : goal.offer_after-requires-clause-bounded
offer_after-requires-clause-bounded c =
    All-slice_get (IsBounded 11) c.args.ways.now c.loop-number.number c.get.result.now c.get.ensures c.requires.bounded

pub returns-clause-kept : goal.returns-clause-kept
returns-clause-kept c = c.in_ok-keep.ensures
