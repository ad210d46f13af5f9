use Rattle.std.proofs.Common.{sym, ◌∙◌, subst, is_ok, arith, sum_by, ◌<◌, ◌-◌, ◌^◌}
use Rattle.std.proofs.lemmas.Bool.{cond_both}
use Rattle.label_bag.specs.Flights.{AreFlights, AreDistinct, LacksClass, IsPlace}
use Rattle.label_bag.proofs.FlightLaws.{flights-sum, flights-open, place-open, distinct-open, cut_at, cut-open}
use Rattle.label_bag.proofs.stair_bag.StairBag.flight_of.Goals as goal

pub place_of-requires : goal.place_of-requires
place_of-requires g c =
    let sum = flights-sum _ _ _ _ _ c.args.self.now.in_flights in
    let fits : sum_by (λ f. f.size) c.args.self.now.flights.items < 2 ^ 64 = omega (arith, sum, c.args.self.now.members.ok.0, c.args.self.now.members.ok.1, c.args.self.now.members.small) in
    rw c.deref.ensures.value fits

pub invariant_of-self : goal.invariant_of-self
invariant_of-self g c =
    let lacks = subst (λ fs. LacksClass g.L.Class.PartialEq.eq fs c.args.class) c.deref.ensures.value c.in_default.ensures.none in
    record {
      apart = c.args.self.now.apart;
      distinct = subst (AreDistinct g.L.Class.PartialEq.eq) (sym c.push.ensures.items)
          (cond_both (is_ok c.push.result) _ _ (AreDistinct g.L.Class.PartialEq.eq) (λ _. distinct-open g.L.Class.PartialEq.eq _ _ c.args.self.now.distinct lacks) (λ _. c.args.self.now.distinct));
      in_flights = subst (λ fs. AreFlights g.L.Class.PartialEq.eq g.L.Stair.class_of g.L.Stair.height_of fs c.args.self.now.members.items) (sym c.push.ensures.items)
          (cond_both (is_ok c.push.result) _ _ (λ fs. AreFlights g.L.Class.PartialEq.eq g.L.Stair.class_of g.L.Stair.height_of fs c.args.self.now.members.items)
          (λ _. flights-open g.L.Class.PartialEq.eq _ _ _ _ _ c.args.self.now.in_flights) (λ _. c.args.self.now.in_flights));
    }

pub returns-clause-ok : goal.returns-clause-ok
returns-clause-ok g c =
    subst (λ fs. IsPlace g.L.Class.PartialEq.eq fs c.args.class (record { number = c.len.result - 1; begin = c.len-end.result; end = c.len-end.result })) (sym c.in_ok-push.ensures.items)
    (place-open _ g.L.Stair.class_of g.L.Stair.height_of _ c.args.self.now.members.items c.args.class _ c.args.self.now.in_flights (g.met.L.Class.Eq.laws.refl c.args.class)
    (omega (arith, c.len.ensures, c.in_ok-push.ensures.len, c.args.self.now.flights.ok.0)) (c.len-end.ensures ∙ c.args.self.now.members.ok.0) (c.len-end.ensures ∙ c.args.self.now.members.ok.0))

pub returns-in-Some-clause-cut : goal.returns-in-Some-clause-cut
returns-in-Some-clause-cut g c =
    let place = subst (λ fs. IsPlace g.L.Class.PartialEq.eq fs c.args.class c.in-Some.place) c.deref.ensures.value c.in-Some.ensures.found in
    cut_at _ _ _ g.met.L.Class.Eq.laws _ _ _ _ c.args.self.now.in_flights place c.args.self.now.distinct

pub returns-clause-cut : goal.returns-clause-cut
returns-clause-cut g c =
    let lacks = subst (λ fs. LacksClass g.L.Class.PartialEq.eq fs c.args.class) c.deref.ensures.value c.in_default.ensures.none in
    cut-open _ _ _ g.met.L.Class.Eq.laws _ _ _ _ c.args.self.now.in_flights lacks (c.len-end.ensures ∙ c.args.self.now.members.ok.0)
