use Rattle.std.proofs.Common.{◌≡◌, refl, sym, ◌∙◌, subst, ap, arith, ◌+◌, ◌<◌, ◌≤◌, ◌∷◌, [], length, get_or, AllPairs, ◌≤ℤ◌, true, vec_len, vec_capacity}
use Rattle.std.specs.Prelude.{slice_range}
use Rattle.std.specs.List.{HoldsAt}
use Rattle.std.proofs.lemmas.List.{get_or_default}
use Rattle.std.proofs.lemmas.List.Edits.{length-between}
use Rattle.std.proofs.lemmas.Result.{err_from_is_err_and}
use Rattle.label_bag.specs.Bags.{IsUncovered, Gathers, AreApart}
use Rattle.label_bag.specs.Flights.{IsCut, NoneOf}
use Rattle.label_bag.specs.Offers.{TakesIn}
use Rattle.label_bag.proofs.BagLaws.{gathers-covered, gathers-taken, takes-insert, apart-insert}
use Rattle.label_bag.proofs.FlightLaws.{none-lacking}
use Rattle.label_bag.proofs.StairLaws.{uncovered-none, uncovered-cut, covered-cut, set-in, flights-kept, distinct-set}
use Rattle.label_bag.proofs.stair_bag.StairBagBag.offer.Goals as goal

pub returns-in_default-clause-no_room : goal.returns-in_default-clause-no_room
returns-in_default-clause-no_room g c =
    let same = ap (λ v. v.items) c.in_default.ensures.same in
    let lacks = none-lacking _ _ _ g.met.L.Class.Eq.laws _ _ _ c.flight_of.new.self.in_flights c.in_default.ensures.err in
    let none = subst (λ k. NoneOf g.L.Class.PartialEq.eq g.L.Stair.class_of k c.flight_of.new.self.members.items) c.class.ensures lacks in
    record {
      same = refl;
      uncovered = subst (λ xs. IsUncovered g.L.LabelOrder.at_most xs c.args.label) same (uncovered-none _ _ _ _ g.met.L.Stair.stairs g.met.L.Class.Eq.laws _ _ none);
      unchanged = same;
      full = omega (arith, c.in_default.ensures.full);
    }

pub count_lower-requires-clause-rising : goal.count_lower-requires-clause-rising
count_lower-requires-clause-rising g c =
    let flight = c.in-Ok.ensures.cut.flight in
    subst (λ xs. AllPairs (λ x y. g.L.Stair.height_of x ≤ℤ g.L.Stair.height_of y) (slice_range xs c.in-Ok.place.begin c.in-Ok.place.end)) (sym c.deref.ensures.value) flight.rising

pub count_up_to-up_to-requires : goal.count_up_to-up_to-requires
count_up_to-up_to-requires g c =
    let flight = c.in-Ok.ensures.cut.flight in
    subst (λ xs. AllPairs (λ x y. g.L.Stair.height_of x ≤ℤ g.L.Stair.height_of y) (slice_range xs c.in-Ok.place.begin c.in-Ok.place.end)) (sym c.deref.ensures.value) flight.rising

pub returns-in-Some-clause-covered : goal.returns-in-Some-clause-covered
returns-in-Some-clause-covered g c =
    let same = ap (λ v. v.items) c.in-Ok.ensures.same in
    let cut = subst (λ k. IsCut g.L.Class.PartialEq.eq g.L.Stair.class_of g.L.Stair.height_of k c.flight_of.new.self.members.items c.in-Ok.place.begin c.in-Ok.place.end) c.class.ensures c.in-Ok.ensures.cut in
    let found = subst (λ xs. (c.in-Some.number < length (slice_range xs c.in-Ok.place.begin c.in-Ok.place.end)) × HoldsAt (λ m. g.L.LabelOrder.at_most m c.args.label ≡ true) (slice_range xs c.in-Ok.place.begin c.in-Ok.place.end) c.in-Some.number) c.deref.ensures.value c.in-Some.ensures.found in
    let place = λ (d : _). covered-cut g.L.LabelOrder.at_most _ _ _ g.met.L.Stair.stairs g.met.L.Class.Eq.laws _ c.args.label _ _ cut c.in-Some.number d found.0 in
    let within = (place c.args.label).0 in
    record {
      within = omega (arith, within, ap length same);
      covering = λ d. subst (λ xs. g.L.LabelOrder.at_most (get_or xs (c.in-Ok.place.begin + c.in-Some.number) d) c.args.label ≡ true) same
          (subst (λ m. g.L.LabelOrder.at_most m c.args.label ≡ true) (place d).1 (found.1 d));
      unchanged = same;
    }

pub returns-in-Some-clause-gathers : goal.returns-in-Some-clause-gathers
returns-in-Some-clause-gathers g c =
    let same = ap (λ v. v.items) c.in-Ok.ensures.same in
    let cut = subst (λ k. IsCut g.L.Class.PartialEq.eq g.L.Stair.class_of g.L.Stair.height_of k c.flight_of.new.self.members.items c.in-Ok.place.begin c.in-Ok.place.end) c.class.ensures c.in-Ok.ensures.cut in
    let found = subst (λ xs. (c.in-Some.number < length (slice_range xs c.in-Ok.place.begin c.in-Ok.place.end)) × HoldsAt (λ m. g.L.LabelOrder.at_most m c.args.label ≡ true) (slice_range xs c.in-Ok.place.begin c.in-Ok.place.end) c.in-Some.number) c.deref.ensures.value c.in-Some.ensures.found in
    let place = covered-cut g.L.LabelOrder.at_most _ _ _ g.met.L.Stair.stairs g.met.L.Class.Eq.laws _ c.args.label _ _ cut c.in-Some.number c.args.label found.0 in
    subst (λ xs. Gathers g.L.LabelOrder.at_most xs (c.args.label ∷ []) c.flight_of.new.self.members.items) same
    (gathers-covered _ _ (c.in-Ok.place.begin + c.in-Some.number) c.args.label place.0
    (subst (λ m. g.L.LabelOrder.at_most m c.args.label ≡ true) place.1 (found.1 c.args.label)))

pub replace-requires-clause-order : goal.replace-requires-clause-order
replace-requires-clause-order g c =
    let cut = c.in-Ok.ensures.cut in
    let within = subst (λ xs. c.count_lower.result ≤ length (slice_range xs c.in-Ok.place.begin c.in-Ok.place.end)) c.deref.ensures.value c.count_lower.ensures.within in
    omega (arith, within, cut.order, cut.bound, length-between c.flight_of.new.self.members.items c.in-Ok.place.begin c.in-Ok.place.end cut.bound)

pub returns-in_err-replace-clause-no_room : goal.returns-in_err-replace-clause-no_room
returns-in_err-replace-clause-no_room g c =
    let p = err_from_is_err_and c.from_residual.result c.from_residual.ensures.1 in
    let same = ap (λ v. v.items) c.in-Ok.ensures.same in
    let cut = subst (λ k. IsCut g.L.Class.PartialEq.eq g.L.Stair.class_of g.L.Stair.height_of k c.flight_of.new.self.members.items c.in-Ok.place.begin c.in-Ok.place.end) c.class.ensures c.in-Ok.ensures.cut in
    let bare = subst (λ xs. IsUncovered g.L.LabelOrder.at_most (slice_range xs c.in-Ok.place.begin c.in-Ok.place.end) c.args.label) c.deref.ensures.value c.in_default-cover_below.ensures.none in
    let refused = c.in_err-replace.ensures.refused in
    rw (p.1, p.2)
    (record {
      same = refused.0;
      uncovered = subst (λ xs. IsUncovered g.L.LabelOrder.at_most xs c.args.label) same
          (uncovered-cut g.L.LabelOrder.at_most _ _ _ g.met.L.Stair.stairs g.met.L.Class.Eq.laws _ c.args.label _ _ cut bare);
      unchanged = refused.1 ∙ same;
      full =
          let old = ap vec_capacity c.in-Ok.ensures.same in
          let len = ap vec_len c.in-Ok.ensures.same in
          omega (arith, refused.2, old, len);
    })

pub returns-clause-kept : goal.returns-clause-kept
returns-clause-kept g c =
    let same = ap (λ v. v.items) c.in-Ok.ensures.same in
    let set = set-in g.L.LabelOrder.at_most _ _ _ g.met.L.Stair.stairs g.met.L.Class.Eq.laws _ _ c.args.label _ c.in-Ok.place _ _ c.deref.ensures.value c.class.ensures c.in-Ok.ensures.cut
    c.count_lower.ensures.within c.count_lower.ensures.lower c.in_ok-replace.ensures.ok c.in_default-cover_below.ensures.none in
    subst (λ xs. TakesIn g.L.LabelOrder.at_most xs c.args.label c.replace.new.members.items) same
    (subst (TakesIn g.L.LabelOrder.at_most _ c.args.label) (sym set.is) (takes-insert _ _ _ _ set.uncovered))

pub returns-clause-gathers : goal.returns-clause-gathers
returns-clause-gathers g c =
    let same = ap (λ v. v.items) c.in-Ok.ensures.same in
    let set = set-in g.L.LabelOrder.at_most _ _ _ g.met.L.Stair.stairs g.met.L.Class.Eq.laws _ _ c.args.label _ c.in-Ok.place _ _ c.deref.ensures.value c.class.ensures c.in-Ok.ensures.cut
    c.count_lower.ensures.within c.count_lower.ensures.lower c.in_ok-replace.ensures.ok c.in_default-cover_below.ensures.none in
    subst (λ xs. Gathers g.L.LabelOrder.at_most xs (c.args.label ∷ []) c.replace.new.members.items) same
    (gathers-taken _ g.met.L.LabelOrder.laws _ _ _ (subst (TakesIn g.L.LabelOrder.at_most _ c.args.label) (sym set.is) (takes-insert _ _ _ _ set.uncovered)))

pub invariant_of-self-2 : goal.invariant_of-self-2
invariant_of-self-2 g c =
    let set = set-in g.L.LabelOrder.at_most _ _ _ g.met.L.Stair.stairs g.met.L.Class.Eq.laws _ _ c.args.label _ c.in-Ok.place _ _ c.deref.ensures.value c.class.ensures c.in-Ok.ensures.cut
    c.count_lower.ensures.within c.count_lower.ensures.lower c.in_ok-replace.ensures.ok c.in_default-cover_below.ensures.none in
    let class = λ (d : _). ap (λ f. f.class) (c.index_mut.ensures.value ∙ get_or_default c.flight_of.new.self.flights.items c.in-Ok.place.number _ d c.in-Ok.ensures.ok.listed) in
    record {
      apart = subst (AreApart g.L.LabelOrder.at_most) (sym set.is) (apart-insert _ _ _ _ c.flight_of.new.self.apart set.uncovered set.within);
      distinct = distinct-set g.L.Class.PartialEq.eq _ _ _ c.in-Ok.ensures.ok.listed class c.flight_of.new.self.distinct;
      in_flights = flights-kept g.L.LabelOrder.at_most _ _ _ g.met.L.Stair.stairs g.met.L.Class.Eq.laws _ _ c.args.label _ c.in-Ok.place _ _ c.deref.ensures.value c.class.ensures c.in-Ok.ensures.cut
          c.count_lower.ensures.within c.count_lower.ensures.lower c.in_ok-replace.ensures.ok _ _ c.flight_of.new.self.in_flights c.in-Ok.ensures.ok c.count_lower.ensures.others class
          (omega (arith, c.len.ensures, c.len-2.ensures, c.flight_of.new.self.members.ok.0, c.replace.new.members.ok.0));
    }
