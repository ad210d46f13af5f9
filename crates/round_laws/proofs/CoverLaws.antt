-- What covers goes on as well: whatever ride and move lead on from covered facts, a move leads on from those that cover
-- them, and what they end in is no worse.
use Rattle.std.proofs.Common.{◌≡◌, refl, sym, ◌∙◌, ap, subst, ℕ, ◌≤◌, true, ◌&&◌, arith, ℤ, pos, ◌+ℤ◌, ◌≤ℤ◌}
use Rattle.std.specs.Prelude.{◌==◌, int_le, nat_le, Option, Some, None, is_none, option_map}
use Rattle.std.proofs.lemmas.Bool.Decides.{nat_tests}
use Rattle.std.proofs.lemmas.Int.{ints}
use Rattle.std.proofs.lemmas.Option.{same_Some, none-some}
use Rattle.transit_base.specs.declared.numbers.StopId.{StopId}
use Rattle.feed_rows.specs.declared.fares.Triple.{Triple}
use Rattle.feed_rows.specs.declared.journeys.Query.{Query}
use Rattle.feed_rows.specs.declared.journeys.Ride.{Ride}
use Rattle.feed_rows.specs.declared.journeys.RideFacts.{RideFacts}
use Rattle.feed_rows.specs.declared.states.FareState.{FareState}
use Rattle.feed_rows.specs.declared.states.Move.{Move}
use Rattle.feed_rows.specs.FareSteps.{move_after}
use Rattle.feed_rows.specs.FeedRows.{FeedRows}
use Rattle.feed_rows.specs.Journeys.{is_caught}
use Rattle.feed_rows.specs.JourneyStands.{Stand, way_to, way_out, end_arrival}
use Rattle.feed_rows.specs.LabelCover.{Covers, price_so_far, spent_so_far}
use Rattle.feed_rows.specs.Legs.{leg_facts}
use Rattle.feed_rows.specs.ParetoTriples.{at_most}
use Rattle.feed_rows.specs.PartialJourneys.{LabelFacts}
use Rattle.fare_laws.proofs.AmountLaws.{no_dearer-trans}
use Rattle.fare_laws.proofs.LeadLaws.{leads_too}
use Rattle.search_laws.specs.Ways.{AreLawful, EndsNoWorse, IsFollowed}
use Rattle.round_laws.specs.LabelSteps.{IsStated, stand_of_facts, facts_after, ways, IsCaughtRide, IsLabelStep, IsLabelEnd}
use Rattle.round_laws.proofs.IntLaws.{as_much, no_more}
use Rattle.round_laws.proofs.PartLaws.{same_stand, stated_of_start, stated_of_step}

-- and what those cover that they cover
pub covers-trans : (a b c : LabelFacts) → Covers a b → Covers b c → Covers a c
covers-trans a b c p q = record {
  stop = p.stop ∙ q.stop;
  arrival = no_more a.arrival b.arrival c.arrival p.arrival q.arrival;
  rides = omega (arith, p.rides, q.rides);
  spent = no_dearer-trans (spent_so_far a) (spent_so_far b) (spent_so_far c) p.spent q.spent;
  state = p.state ∙ q.state;
}

-- ---- where one stands

module _ (feed : FeedRows) (query : Query) (a b : LabelFacts) (stated : IsStated a) (stated' : IsStated b)
    (covers : Covers a b) where
  -- either no ride was taken in both, or in neither
  as_fresh : (a.rides == 0) ≡ (b.rides == 0)
  as_fresh = stated ∙ ap is_none covers.state ∙ sym stated'

  -- so one stands alike but for the moment
  same_place : ◌≡◌ {A = Stand} (record (stand_of_facts a) { at = b.arrival }) (stand_of_facts b)
  same_place = same_stand a.stop b.stop b.arrival b.arrival (a.rides == 0) (b.rides == 0) covers.stop refl as_fresh

  -- and ways are as long from one as from the other
  same_way : (boarding : StopId) →
      way_to feed query (stand_of_facts a) boarding ≡ way_to feed query (stand_of_facts b) boarding
  same_way boarding = ap (λ (p : Stand). way_to feed query p boarding) same_place

  same_way_out : (last : StopId) →
      way_out feed query (stand_of_facts a) last ≡ way_out feed query (stand_of_facts b) last
  same_way_out last = ap (λ (p : Stand). way_out feed query p last) same_place

-- a ride that is caught from a moment is caught from an earlier one
caught_sooner : (x y : ℤ) (way : Option ℕ) (ride : RideFacts) → x ≤ℤ y → is_caught y way ride ≡ true →
    is_caught x way ride ≡ true
caught_sooner x y None ride le caught = caught
caught_sooner x y (Some s) ride le caught = sooner x y ride.departure.0 s le caught
  where
    sooner : (x y z : ℤ) (s : ℕ) → x ≤ℤ y → int_le (y +ℤ pos s) z ≡ true → int_le (x +ℤ pos s) z ≡ true
    sooner x y z s le caught = grind (arith, ints, le, caught)

-- so a ride that goes on from facts goes on from those that cover them
catches_too : (feed : FeedRows) (query : Query) (a b : LabelFacts) (ride : Ride) (facts : RideFacts) →
    IsStated a → IsStated b → Covers a b → IsCaughtRide feed query b ride facts → IsCaughtRide feed query a ride facts
catches_too feed query a b ride facts stated stated' covers c = record {
  is = c.is;
  few = omega (arith, covers.rides, c.few);
  caught =
      subst (λ (way : Option ℕ). is_caught a.arrival way facts ≡ true)
      (sym (same_way feed query a b stated stated' covers facts.from))
      (caught_sooner a.arrival b.arrival (way_to feed query (stand_of_facts b) facts.from) facts covers.arrival
      c.caught);
  in_time = c.in_time;
}

-- ---- one more ride

-- the facts after the same ride cover the others, where the moves lead to one state and no more is paid
covers_after : (a a' : LabelFacts) (facts : RideFacts) (move move' : Move) → a.rides ≤ a'.rides →
    move.state ≡ move'.state → move.held ≡ move'.held → (a.paid +ℤ move.paid.0) ≤ℤ (a'.paid +ℤ move'.paid.0) →
    Covers (facts_after a facts move) (facts_after a' facts move')
covers_after a a' facts move move' few state held le = record {
  stop = refl;
  arrival = as_much facts.arrival.0;
  rides = omega (arith, few);
  spent = record {
    paid = le;
    price = with_held (a.paid +ℤ move.paid.0) (a'.paid +ℤ move'.paid.0) move.held.0 move'.held.0 (ap (λ h. h.0) held) le;
  };
  state = ap Some state;
}
  where
    with_held : (x x' h h' : ℤ) → h ≡ h' → x ≤ℤ x' → (x +ℤ h) ≤ℤ (x' +ℤ h')
    with_held x x' h h' e le = omega (arith, ints, e, le)

-- whatever goes on from facts goes on from those that cover them, and leads to facts that cover where it leads
pub follow : (feed : FeedRows) (query : Query) (a a' : LabelFacts) (ride : Ride) (move' : Move) (b' : LabelFacts) →
    IsStated a → IsStated a' → Covers a a' → IsLabelStep feed query a' ride move' b' → IsFollowed (ways feed query) a ride b'
follow feed query a a' ride move' b' stated stated' covers s =
    let leg = leg_facts feed s.facts in
    let pays =
    subst (λ (state : Option FareState). move_after feed query.buyer state a'.held leg move' ≡ Some move')
    (sym covers.state) s.pays in
    let m = leads_too feed query.buyer a.state a.paid a.held a'.paid a'.held leg move' covers.spent.paid covers.spent.price pays in
    record {
      move = m.move;
      b = facts_after a s.facts m.move;
      step = record {
        facts = s.facts;
        rides = catches_too feed query a a' ride s.facts stated stated' covers s.rides;
        pays = m.is;
        next = refl;
      };
      covers =
          subst (Covers (facts_after a s.facts m.move)) (sym s.next)
          (covers_after a a' s.facts m.move move' covers.rides m.state_is m.held_is m.paid_less);
    }

-- ---- ends

-- the triple with this arrival
abbrev end_at : LabelFacts → ℤ → Triple
end_at a arrival =
    record { arrival = record { 0 = arrival }; rides = a.rides; price = record { 0 = price_so_far a } }

-- it is no worse where each part is not
end_below : (a : LabelFacts) (arrival : ℤ) (worse : Triple) → arrival ≤ℤ worse.arrival.0 → a.rides ≤ worse.rides →
    price_so_far a ≤ℤ worse.price.0 → at_most (end_at a arrival) worse ≡ true
end_below a arrival worse = by arrival worse.arrival.0 (price_so_far a) worse.price.0 a.rides worse.rides
  where
    by : (x x' p p' : ℤ) (n n' : ℕ) → x ≤ℤ x' → n ≤ n' → p ≤ℤ p' → (int_le x x' && nat_le n n' && int_le p p') ≡ true
    by x x' p p' n n' le few less = grind (arith, ints, nat_tests, le, few, less)

-- whatever covered facts end in, those that cover them end in what is no worse
pub ends_no_worse : (feed : FeedRows) (query : Query) (a a' : LabelFacts) (last : StopId) (worse : Triple) →
    IsStated a → IsStated a' → Covers a a' → IsLabelEnd feed query a' last worse → EndsNoWorse (ways feed query) a last worse
unfolding end_arrival
ends_no_worse feed query a a' last worse stated stated' covers e =
    by (way_out feed query (stand_of_facts a') last) refl e.arrives
  where
    sooner : (x x' y' : ℤ) (s : ℕ) → x ≤ℤ x' → x' +ℤ pos s ≡ y' → (x +ℤ pos s) ≤ℤ y'
    sooner x x' y' s le e = omega (arith, ints, le, e)

    price : (p p' q : ℤ) → p ≤ℤ p' → q ≡ p' → p ≤ℤ q
    price p p' q le e = omega (arith, ints, le, e)

    by : (way : Option ℕ) → way_out feed query (stand_of_facts a') last ≡ way →
        option_map (λ s. a'.arrival +ℤ pos s) way ≡ Some worse.arrival.0 → EndsNoWorse (ways feed query) a last worse
    by None is arrives = absurd (none-some _ arrives)
    by (Some s) is arrives =
        let later = sooner a.arrival a'.arrival worse.arrival.0 s covers.arrival (same_Some _ _ arrives) in
        let way = same_way_out feed query a a' stated stated' covers last ∙ is in
        record {
          result = end_at a (a.arrival +ℤ pos s);
          end = record {
            ends = e.ends;
            arrives = ap (option_map (λ (w : ℕ). a.arrival +ℤ pos w)) way;
            in_time = no_more _ _ _ later e.in_time;
            rides = refl;
            price = refl;
          };
          below =
              end_below a (a.arrival +ℤ pos s) worse later (omega (arith, covers.rides, e.rides))
              (price (price_so_far a) (price_so_far a') worse.price.0 covers.spent.price e.price);
        }

-- ---- the laws of a search

-- what facts cover goes on and ends as they do, and each way's fares are in a state exactly where it has a ride
pub lawful : (feed : FeedRows) (query : Query) → AreLawful (ways feed query)
lawful feed query = record {
  starts = λ a start. subst IsStated (sym start.1) (stated_of_start query a.stop);
  steps = λ a b ride move step. stated_of_step feed query a ride move b step;
  onward = covers-trans;
  follow = λ a a' ride move b stated stated' covers step. follow feed query a a' ride move b stated stated' covers step;
  ends = λ a a' last worse stated stated' covers end. ends_no_worse feed query a a' last worse stated stated' covers end;
}
