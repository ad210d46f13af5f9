-- A triple that arrives before a label, with no more rides and for no more than can follow from it, betters all that the
-- label leads to.
use Rattle.std.proofs.Common.{◌≡◌, refl, sym, ◌∙◌, ap, subst, ℕ, zero, suc, ◌+◌, ◌-◌, ◌<◌, ◌≤◌, Bool, true, false, ◌&&◌, arith, ℤ, pos, ◌+ℤ◌, ◌≤ℤ◌}
use Rattle.std.specs.Prelude.{◌==◌, ◌||◌, if◌then◌else◌, int_le, nat_le, Option, Some, None, is_none, slice_get, option_map, ◌*ℤ◌}
use Rattle.std.specs.Int.{int_min}
use Rattle.std.proofs.lemmas.Bool.{and_parts}
use Rattle.std.proofs.lemmas.Bool.Decides.{nat_tests}
use Rattle.std.proofs.lemmas.Int.{ints}
use Rattle.transit_base.specs.Limits.{most_time}
use Rattle.feed_rows.specs.declared.fares.ChangeChoice.{ChangeChoice}
use Rattle.feed_rows.specs.declared.fares.Triple.{Triple}
use Rattle.feed_rows.specs.declared.journeys.Query.{Query}
use Rattle.feed_rows.specs.declared.journeys.Ride.{Ride}
use Rattle.feed_rows.specs.declared.journeys.RideFacts.{RideFacts}
use Rattle.feed_rows.specs.declared.rows.TransferRuleRow.{TransferRuleRow}
use Rattle.feed_rows.specs.declared.states.FareState.{FareState}
use Rattle.feed_rows.specs.declared.states.Move.{Move}
use Rattle.feed_rows.specs.Codes.{change_alone}
use Rattle.feed_rows.specs.FareFloor.{fare_floor}
use Rattle.feed_rows.specs.FareSteps.{place_kind, frees_first, move_after, place_taken}
use Rattle.feed_rows.specs.FeedRows.{FeedRows}
use Rattle.feed_rows.specs.JourneyStands.{way_to}
use Rattle.feed_rows.specs.LabelCover.{price_so_far}
use Rattle.feed_rows.specs.Legs.{leg_facts}
use Rattle.feed_rows.specs.ParetoTriples.{at_most}
use Rattle.feed_rows.specs.PartialJourneys.{LabelFacts}
use Rattle.feed_rows.specs.SoundFeed.{IsSoundFeed}
use Rattle.plain_laws.proofs.Laws.{filled_and-true, int_le-true, list_any-place}
use Rattle.feed_laws.proofs.RideLaws.{ride_facts_timed}
use Rattle.feed_laws.proofs.SoundTrips.{sound_trip}
use Rattle.fare_laws.proofs.FloorLaws.{low_move, low_price, floor_below, min_second}
use Rattle.search_laws.specs.Ways.{LeadsBy}
use Rattle.round_laws.specs.Futility.{some_takes_back, least_price, least_end, is_within}
use Rattle.round_laws.specs.LabelSteps.{stand_of_facts, ways, IsCaughtRide, IsLabelStep}
use Rattle.round_laws.proofs.IntLaws.{as_much, no_more}
use Rattle.round_laws.proofs.TimeLaws.{later_end}

-- ---- time

-- a ride that is caught arrives no earlier than one stood there
pub later_ride : (feed : FeedRows) (query : Query) (a : LabelFacts) (ride : Ride) (facts : RideFacts) → IsSoundFeed feed →
    IsCaughtRide feed query a ride facts → a.arrival ≤ℤ facts.arrival.0
later_ride feed query a ride facts sound c =
    let timed = ride_facts_timed feed ride facts most_time (sound_trip feed ride.trip sound) c.is in
    let way =
    filled_and-true (way_to feed query (stand_of_facts a) facts.from) (λ (w : ℕ). int_le (a.arrival +ℤ pos w) facts.departure.0)
    c.caught in
    onward a.arrival facts.departure.0 facts.arrival.0 way.value (int_le-true _ _ way.passes) timed.forward
  where
    onward : (at departs arrives : ℤ) (way : ℕ) → (at +ℤ pos way) ≤ℤ departs → departs ≤ℤ arrives → at ≤ℤ arrives
    onward at departs arrives way p q = omega (arith, ints, p, q)

-- ---- prices

-- a change that takes something back is by a row of its type
none_taken : (feed : FeedRows) (place : Option ChangeChoice) → some_takes_back feed ≡ false →
    frees_first (place_kind feed place) ≡ false
unfolding some_takes_back
none_taken feed None none = refl
none_taken feed (Some pick) none = by (slice_get feed.transfer_rules pick.rule.0) refl
  where
    by : (o : Option TransferRuleRow) → slice_get feed.transfer_rules pick.rule.0 ≡ o →
        frees_first (option_map (λ (row : TransferRuleRow). row.kind) o) ≡ false
    by None is = refl
    by (Some row) is = other (row.kind == change_alone) refl
      where
        other : (b : Bool) → (row.kind == change_alone) ≡ b → b ≡ false
        other false same = refl
        other true same = sym (list_any-place (λ r. r.kind == change_alone) feed.transfer_rules pick.rule.0 row is same) ∙ none

second_false : (x y : Bool) → (x || y) ≡ false → y ≡ false
second_false true y e = absurd (let no : true ≡ false = e in cc)
second_false false y e = e

-- the least price after a step is no less than the one before it with the floor
least_step : (feed : FeedRows) (query : Query) (whole : Bool) (a b : LabelFacts) (ride : Ride) (move : Move) →
    IsLabelStep feed query a ride move b →
    (least_price feed whole a +ℤ fare_floor feed query.buyer) ≤ℤ least_price feed whole b
least_step feed query whole a b ride move s =
    let low = low_move feed query.buyer a.state a.paid a.held (leg_facts feed s.facts) move s.pays in
    subst (λ (b : LabelFacts). (least_price feed whole a +ℤ fare_floor feed query.buyer) ≤ℤ least_price feed whole b)
    (sym s.next) (by a.state s.pays (whole || some_takes_back feed) refl low)
  where
    floor : ℤ
    floor = fare_floor feed query.buyer

    price : ℤ
    price = a.paid +ℤ move.paid.0 +ℤ move.held.0

    by : (state : Option FareState) → move_after feed query.buyer state a.held (leg_facts feed s.facts) move ≡ Some move →
        (back : Bool) → (whole || some_takes_back feed) ≡ back →
        (int_min a.paid (a.paid +ℤ a.held) +ℤ floor) ≤ℤ int_min (a.paid +ℤ move.paid.0) price →
        ((if back || is_none state then int_min a.paid (a.paid +ℤ a.held) else a.paid +ℤ a.held) +ℤ floor) ≤ℤ
        (if back || false then int_min (a.paid +ℤ move.paid.0) price else price)
    by state pays true is low = low
    by None pays false is low = no_more _ _ _ low (min_second _ _)
    by (Some state) pays false is low =
        low_price feed query.buyer state a.paid a.held (leg_facts feed s.facts) move pays
        (none_taken feed (place_taken move) (second_false whole (some_takes_back feed) is))

-- so is the least price at the end
end_by : (x y floor : ℤ) (limit n : ℕ) → n < limit → (x +ℤ floor) ≤ℤ y →
    (x +ℤ (floor *ℤ pos (limit - n))) ≤ℤ (y +ℤ (floor *ℤ pos (limit - (n + 1))))
end_by x y floor limit n lt le = by (limit - (n + 1)) (omega (arith, lt))
  where
    one_more : (k : ℕ) → floor *ℤ pos (k + 1) ≡ (floor *ℤ pos k) +ℤ floor
    one_more k = omega (arith, ints)

    by : (k : ℕ) → limit - n ≡ k + 1 → (x +ℤ (floor *ℤ pos (limit - n))) ≤ℤ (y +ℤ (floor *ℤ pos k))
    by k is = rw (is, one_more k) (sums (floor *ℤ pos k))
      where
        sums : (z : ℤ) → (x +ℤ (z +ℤ floor)) ≤ℤ (y +ℤ z)
        sums z = omega (arith, ints, le)

-- ---- a triple that is ahead

-- what the test tells, and when it passes
pub record Ahead (at : ℤ) (rides : ℕ) (price : ℤ) (triple : Triple) : Type 0 where
  pub arrival : triple.arrival.0 ≤ℤ at
  pub few : triple.rides ≤ rides
  pub cheap : triple.price.0 ≤ℤ price

pub ahead_tells : (at : ℤ) (rides : ℕ) (price : ℤ) (triple : Triple) → is_within at rides price triple ≡ true →
    Ahead at rides price triple
ahead_tells at rides price triple is =
    let all = and_parts (int_le triple.arrival.0 at && nat_le triple.rides rides) _ is in
    let both = and_parts (int_le triple.arrival.0 at) _ all.0 in
    record { arrival = int_le-true _ _ both.0; few = few _ _ both.1; cheap = int_le-true _ _ all.1 }
  where
    few : (m n : ℕ) → nat_le m n ≡ true → m ≤ n
    few m n h = grind (arith, nat_tests)

pub ahead_passes : (at : ℤ) (rides : ℕ) (price : ℤ) (triple : Triple) → Ahead at rides price triple →
    is_within at rides price triple ≡ true
ahead_passes at rides price triple a = by triple.arrival.0 at triple.price.0 price triple.rides rides a.arrival a.few a.cheap
  where
    by : (x x' p p' : ℤ) (n n' : ℕ) → x ≤ℤ x' → n ≤ n' → p ≤ℤ p' → (int_le x x' && nat_le n n' && int_le p p') ≡ true
    by x x' p p' n n' le few less = grind (arith, ints, nat_tests, le, few, less)

-- how little can follow is no more than the price so far
least_below : (feed : FeedRows) (query : Query) (whole : Bool) (a : LabelFacts) →
    least_end feed query whole a ≤ℤ price_so_far a
unfolding least_end
least_below feed query whole a =
    by (least_price feed whole a) (fare_floor feed query.buyer) (query.rides - a.rides)
    (least ((whole || some_takes_back feed) || is_none a.state)) (floor_below feed query.buyer)
  where
    least : (b : Bool) → (if b then int_min a.paid (price_so_far a) else price_so_far a) ≤ℤ price_so_far a
    least true = min_second _ _
    least false = as_much _

    none_below : (floor : ℤ) (k : ℕ) → floor ≤ℤ pos 0 → (floor *ℤ pos k) ≤ℤ pos 0
    none_below floor zero le = omega (arith, ints)
    none_below floor (suc k) le =
        let less = none_below floor k le in
        let next : floor *ℤ pos (suc k) ≡ (floor *ℤ pos k) +ℤ floor = omega (arith, ints) in
        omega (arith, ints, less, le, next)

    by : (x floor : ℤ) (k : ℕ) → x ≤ℤ price_so_far a → floor ≤ℤ pos 0 → (x +ℤ (floor *ℤ pos k)) ≤ℤ price_so_far a
    by x floor k le below = let none = none_below floor k below in sum x (floor *ℤ pos k) (price_so_far a) le none
      where
        sum : (x y z : ℤ) → x ≤ℤ z → y ≤ℤ pos 0 → (x +ℤ y) ≤ℤ z
        sum x y z p q = omega (arith, ints, p, q)

module _ (feed : FeedRows) (query : Query) (whole : Bool) (sound : IsSoundFeed feed) (triple : Triple) where
  -- the triple arrives no later than one stands there, with no more rides, and costs no more than can follow
  abbrev IsAheadOf : LabelFacts → Type 0
  IsAheadOf a = is_within a.arrival a.rides (least_end feed query whole a) triple ≡ true

  -- a triple that is ahead of a ride is ahead of whatever that leads to
  pub ahead_of_ride : (a b : LabelFacts) (ride : Ride) (move : Move) (s : IsLabelStep feed query a ride move b) →
      is_within s.facts.arrival.0 (a.rides + 1) (least_end feed query whole a) triple ≡ true → IsAheadOf b
  unfolding least_end
  ahead_of_ride a b ride move s is =
      let t = ahead_tells _ _ _ triple is in
      let least = least_step feed query whole a b ride move s in
      let few : b.rides ≡ a.rides + 1 = ap (λ (x : LabelFacts). x.rides) s.next in
      let at : b.arrival ≡ s.facts.arrival.0 = ap (λ (x : LabelFacts). x.arrival) s.next in
      ahead_passes _ _ _ triple (record {
        arrival = subst (λ (z : ℤ). triple.arrival.0 ≤ℤ z) (sym at) t.arrival;
        few = subst (λ (n : ℕ). triple.rides ≤ n) (sym few) t.few;
        cheap = no_more _ _ _ t.cheap
            (subst (λ (n : ℕ). least_end feed query whole a ≤ℤ
            (least_price feed whole b +ℤ (fare_floor feed query.buyer *ℤ pos (query.rides - n))))
            (sym few) (end_by (least_price feed whole a) (least_price feed whole b)
            (fare_floor feed query.buyer) query.rides a.rides s.rides.few least));
      })

  -- so is one that is ahead before the ride
  pub ahead_after : (a b : LabelFacts) (ride : Ride) (move : Move) → IsLabelStep feed query a ride move b →
      IsAheadOf a → IsAheadOf b
  ahead_after a b ride move s is =
      let t = ahead_tells _ _ _ triple is in
      let later = later_ride feed query a ride s.facts sound s.rides in
      ahead_of_ride a b ride move s
      (ahead_passes _ _ _ triple (record {
        arrival = no_more _ _ _ t.arrival later;
        few = omega (arith, t.few);
        cheap = t.cheap;
      }))

  -- it betters all that so many more rides lead to
  pub ahead_leads : (n : ℕ) (a : LabelFacts) (other : Triple) → IsAheadOf a → LeadsBy (ways feed query) n a other → at_most triple other ≡ true
  ahead_leads zero a other is leads =
      let t = ahead_tells _ _ _ triple is in
      let e = leads.1 in
      let later = later_end feed query (stand_of_facts a) leads.0 other.arrival.0 e.arrives in
      ahead_passes other.arrival.0 other.rides other.price.0 triple (record {
        arrival = no_more _ _ _ t.arrival later;
        few = subst (λ (n : ℕ). triple.rides ≤ n) (sym e.rides) t.few;
        cheap = no_more _ _ _ t.cheap
            (subst (λ (z : ℤ). least_end feed query whole a ≤ℤ z) (sym e.price) (least_below feed query whole a));
      })
  ahead_leads (suc n) a other is leads =
      ahead_leads n leads.2 other (ahead_after a leads.2 leads.0 leads.1 leads.3 is) leads.4
