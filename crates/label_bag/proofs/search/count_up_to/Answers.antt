use Rattle.std.proofs.Common.{◌≡◌, sym, ◌∙◌, ap, subst, ◌+◌, ◌-◌, ◌*◌, ◌^◌, ◌<◌, length, arith}
use Rattle.std.proofs.lemmas.Nat.{one_shl, pow_pos}
use Rattle.label_bag.proofs.HeightLaws.{IsOpen, double, shifted, open-first, open-half, open-last, up_to-open, higher-open}
use Rattle.label_bag.proofs.search.count_up_to.Goals as goal

pub is_up_to-requires : goal.is_up_to-requires
is_up_to-requires g c = omega (arith, one_shl c.exponent-top.result 64 c.exponent-top.ensures.within, c.exponent-top.ensures.low, pow_pos c.exponent-top.result)

pub overflow_sub-start : goal.overflow_sub-start
overflow_sub-start g c = omega (arith, one_shl c.exponent-top.result 64 c.exponent-top.ensures.within, c.exponent-top.ensures.low)

pub loop-shift-init : goal.loop-shift-init
loop-shift-init g c =
    let half = one_shl c.exponent-top.result 64 c.exponent-top.ensures.within in
    let some = pow_pos c.exponent-top.result in
    subst (λ n. IsOpen g.L.Stair.height_of c.args.flight.now (g.L.Stair.height_of c.args.label.now) (c.is_up_to.result * (length c.args.flight.now - n)) (2 ^ c.exponent-top.result)) (sym half)
    (open-first g.L.Stair.height_of c.args.flight.now (g.L.Stair.height_of c.args.label.now) c.requires c.is_up_to.result _ c.is_up_to.ensures.bit
    (omega (arith, half, some, c.exponent-top.ensures.low)) c.is_up_to.ensures.up_to c.is_up_to.ensures.higher (2 ^ c.exponent-top.result)
    (omega (arith, half, some)) c.exponent-top.ensures.low (omega (arith, c.exponent-top.ensures.high, double c.exponent-top.result)))

pub loop-shift-preserved : goal.loop-shift-preserved
loop-shift-preserved g c =
    let inside : c.loop-shift.shift - 1 < 64 = omega (arith, c.exponent-top.ensures.within) in
    let half = one_shl (c.loop-shift.shift - 1) 64 inside in
    let some = pow_pos (c.loop-shift.shift - 1) in
    let next : c.loop-shift.shift ≡ (c.loop-shift.shift - 1) + 1 = omega arith in
    let width : 2 ^ c.loop-shift.shift ≡ 2 ^ (c.loop-shift.shift - 1) + 2 ^ (c.loop-shift.shift - 1) = ap (λ k. 2 ^ k) next ∙ double (c.loop-shift.shift - 1) in
    let was = c.loop-shift.invariant in
    let fits = was.fits in
    subst (λ n. IsOpen g.L.Stair.height_of c.args.flight.now (g.L.Stair.height_of c.args.label.now) (c.loop-shift.start + n) (2 ^ (c.loop-shift.shift - 1))) (sym (shifted c.is_up_to-in-loop-shift.result (c.loop-shift.shift - 1) c.is_up_to-in-loop-shift.ensures.bit inside))
    (open-half g.L.Stair.height_of c.args.flight.now (g.L.Stair.height_of c.args.label.now) c.requires c.is_up_to-in-loop-shift.result _ c.is_up_to-in-loop-shift.ensures.bit
    (omega (arith, half, some, width, fits)) c.is_up_to-in-loop-shift.ensures.up_to c.is_up_to-in-loop-shift.ensures.higher c.loop-shift.start (2 ^ (c.loop-shift.shift - 1))
    (omega (arith, half, some)) (subst (IsOpen g.L.Stair.height_of c.args.flight.now (g.L.Stair.height_of c.args.label.now) c.loop-shift.start) width was))

pub returns-clause-up_to : goal.returns-clause-up_to
returns-clause-up_to g c =
    let last : c.loop-shift.shift ≡ 0 = omega arith in
    let one = subst (λ k. IsOpen g.L.Stair.height_of c.args.flight.now (g.L.Stair.height_of c.args.label.now) c.loop-shift.start (2 ^ k)) last c.loop-shift.invariant in
    let fits = one.fits in
    up_to-open g.L.Stair.height_of c.args.flight.now (g.L.Stair.height_of c.args.label.now) _
    (open-last g.L.Stair.height_of c.args.flight.now (g.L.Stair.height_of c.args.label.now) c.requires c.is_up_to-2.result _ c.is_up_to-2.ensures.bit (omega (arith, fits))
    c.is_up_to-2.ensures.up_to c.is_up_to-2.ensures.higher one)

pub returns-clause-higher : goal.returns-clause-higher
returns-clause-higher g c =
    let last : c.loop-shift.shift ≡ 0 = omega arith in
    let one = subst (λ k. IsOpen g.L.Stair.height_of c.args.flight.now (g.L.Stair.height_of c.args.label.now) c.loop-shift.start (2 ^ k)) last c.loop-shift.invariant in
    let fits = one.fits in
    higher-open g.L.Stair.height_of c.args.flight.now (g.L.Stair.height_of c.args.label.now) _
    (open-last g.L.Stair.height_of c.args.flight.now (g.L.Stair.height_of c.args.label.now) c.requires c.is_up_to-2.result _ c.is_up_to-2.ensures.bit (omega (arith, fits))
    c.is_up_to-2.ensures.up_to c.is_up_to-2.ensures.higher one)
