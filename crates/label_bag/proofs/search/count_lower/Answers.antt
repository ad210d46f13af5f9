use Rattle.std.proofs.Common.{◌≡◌, subst, ◌+◌, ◌-◌, ◌<ℤ◌, ◌≤ℤ◌, All, drop, arith}
use Rattle.std.proofs.lemmas.Int.{ints}
use Rattle.std.proofs.lemmas.List.Elements.{at_read}
use Rattle.label_bag.proofs.HeightLaws.{lower-up_to, others-from}
use Rattle.label_bag.proofs.search.count_lower.Goals as goal

pub returns-then-height-clause-lower : goal.returns-then-height-clause-lower
returns-then-height-clause-lower g c =
    let low : g.L.Stair.height_of c.index-flight-place.result <ℤ g.L.Stair.height_of c.args.label.now =
    grind (arith, ints, c.if-height.true, c.height.ensures, c.height-in-loop-place.ensures) in
    lower-up_to g.L.Stair.height_of c.args.flight.now (g.L.Stair.height_of c.args.label.now) c.requires.rising (c.loop-place.place - 1) (omega (arith, c.requires.within))
    (at_read c.args.flight.now (λ m. g.L.Stair.height_of m <ℤ g.L.Stair.height_of c.args.label.now) (c.loop-place.place - 1) c.index-flight-place.result (omega (arith, c.requires.within)) c.index-flight-place.is low)

pub returns-then-height-clause-others : goal.returns-then-height-clause-others
returns-then-height-clause-others g c =
    let next : c.loop-place.place ≡ (c.loop-place.place - 1) + 1 = omega arith in
    subst (λ n. All (λ m. g.L.Stair.height_of c.args.label.now ≤ℤ g.L.Stair.height_of m) (drop n c.args.flight.now)) next
    (others-from g.L.Stair.height_of c.args.flight.now (g.L.Stair.height_of c.args.label.now) c.loop-place.place c.args.up_to c.loop-place.invariant c.requires.higher)

pub returns-clause-others : goal.returns-clause-others
returns-clause-others g c =
    others-from g.L.Stair.height_of c.args.flight.now (g.L.Stair.height_of c.args.label.now) 0 c.args.up_to
    (λ k d from lt. c.loop-place.invariant k d (omega arith) lt) c.requires.higher
