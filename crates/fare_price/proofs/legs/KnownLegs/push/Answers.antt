use Rattle.fare_price.proofs.KnownLaws.{still_known, push_result}
use Rattle.fare_price.proofs.legs.KnownLegs.push.Goals as goal

pub invariant_of-self : goal.invariant_of-self
invariant_of-self c = still_known _ _ _ _ c.know.ensures.still c.self.invariant

pub invariant_of-self-2 : goal.invariant_of-self-2
invariant_of-self-2 c =
    push_result c.self.inside.known.lists c.know.new.self.lists c.self.inside.legs.items c.push_both.new.legs.items c.args.leg
    c.self.inside.numbers.items c.push_both.new.numbers.items c.in_ok-number.number c.push_both.result c.know.ensures.still c.self.invariant
    c.in_ok-number.ensures.known c.push_both.ensures.legs c.push_both.ensures.numbers c.push_both.ensures.legs_stay c.push_both.ensures.numbers_stay
