-- What covers goes on as well: whatever ride and move lead on from covered facts, a move leads on from those that cover them, and what
-- they end in is no worse.
use Rattle.std.proofs.Common.{◌≡◌, refl, sym, ◌∙◌, ap, subst, ℕ, ◌+◌, ◌≤◌, true, false, Bool, ◌&&◌, arith, ℤ, pos, ◌+ℤ◌, ◌≤ℤ◌}
use Rattle.std.specs.Prelude.{◌==◌, int_le, nat_le, Option, Some, None, option_map}
use Rattle.std.proofs.lemmas.Bool.{ne_eqb}
use Rattle.std.proofs.lemmas.Bool.Decides.{nat_tests}
use Rattle.std.proofs.lemmas.Int.{ints}
use Rattle.std.proofs.lemmas.Option.{same_Some, none-some}
use Rattle.transit_base.specs.declared.numbers.StopId.{StopId}
use Rattle.feed_rows.specs.declared.fares.Triple.{Triple}
use Rattle.feed_rows.specs.declared.journeys.Ride.{Ride}
use Rattle.feed_rows.specs.declared.journeys.RideFacts.{RideFacts}
use Rattle.feed_rows.specs.Journeys.{is_caught}
use Rattle.feed_rows.specs.JourneyStands.{Stand, way_to, way_out, end_arrival}
use Rattle.feed_rows.specs.ParetoTriples.{at_most as is_no_worse}
use Rattle.search_laws.specs.Stores.{IsCoverTest}
use Rattle.search_laws.specs.Ways.{AreLawful, EndsNoWorse, IsFollowed}
use Rattle.round_terms.specs.CoverLaws.{cover_laws, covers-tells}
use Rattle.round_search.specs.Searches.{search_of}
use Rattle.round_terms.specs.Steps.{IsCaughtFrom, IsEnd, IsStep, stand_of_facts, ways}
use Rattle.round_terms.specs.Terms.{Covers, Facts, facts_after}
use Rattle.round_terms.specs.Tasks.{HasLaws, Task}

no_later : (x y z : ℤ) → x ≤ℤ y → y ≤ℤ z → x ≤ℤ z
no_later x y z p q = omega (arith, ints, p, q)

itself : (z : ℤ) → z ≤ℤ z
itself z = omega (arith, ints)

stand : StopId → ℤ → Bool → Stand
stand stop at fresh = record { stop = stop; at = at; fresh = fresh }

alike : (s s' : StopId) (at : ℤ) (f f' : Bool) → s ≡ s' → f ≡ f' → stand s at f ≡ stand s' at f'
alike s s' at f f' p q = rw (p, q) refl

-- a ride that is caught from a moment is caught from an earlier one
caught_sooner : (x y : ℤ) (way : Option ℕ) (ride : RideFacts) → x ≤ℤ y → is_caught y way ride ≡ true → is_caught x way ride ≡ true
caught_sooner x y None ride le caught = caught
caught_sooner x y (Some s) ride le caught = sooner x y ride.departure.0 s le caught
  where
    sooner : (x y z : ℤ) (s : ℕ) → x ≤ℤ y → int_le (y +ℤ pos s) z ≡ true → int_le (x +ℤ pos s) z ≡ true
    sooner x y z s le caught = grind (arith, ints, le, caught)

-- there is a ride after one more
ridden : (n : ℕ) → ((n + 1) == 0) ≡ false
ridden n = ne_eqb (n + 1) 0 (λ e. omega (arith, e))

-- triples with no greater parts are at most others
pub parts_below : (a b : Triple) → a.arrival.0 ≤ℤ b.arrival.0 → a.rides ≤ b.rides → a.price.0 ≤ℤ b.price.0 → is_no_worse a b ≡ true
parts_below a b = by a.arrival.0 b.arrival.0 a.price.0 b.price.0 a.rides b.rides
  where
    by : (x x' p p' : ℤ) (n n' : ℕ) → x ≤ℤ x' → n ≤ n' → p ≤ℤ p' → (int_le x x' && nat_le n n' && int_le p p') ≡ true
    by x x' p p' n n' le few less = grind (arith, ints, nat_tests, le, few, less)

module _ {F M : Type 0} (task : Task F M) (laws : HasLaws task) where
  pub covers-trans : (a b c : Facts F) → Covers task.at_most a b → Covers task.at_most b c → Covers task.at_most a c
  covers-trans a b c p q = record {
    stop = p.stop ∙ q.stop;
    arrival = no_later a.arrival b.arrival c.arrival p.arrival q.arrival;
    rides = let one = p.rides in let two = q.rides in omega (arith, one, two);
    fresh = p.fresh ∙ q.fresh;
    fare = laws.order.transitive a.fare b.fare c.fare p.fare q.fare;
  }

  -- ---- where one stands

  module _ (a b : Facts F) (covers : Covers task.at_most a b) where
    -- one stands alike but for the moment
    same_place : ◌≡◌ {A = Stand} (record (stand_of_facts a) { at = b.arrival }) (stand_of_facts b)
    unfolding stand
    same_place = alike a.stop b.stop b.arrival (a.rides == 0) (b.rides == 0) covers.stop covers.fresh

    -- and ways are as long from one as from the other
    same_way : (boarding : StopId) → way_to task.feed task.query (stand_of_facts a) boarding ≡ way_to task.feed task.query (stand_of_facts b) boarding
    same_way boarding = ap (λ (p : Stand). way_to task.feed task.query p boarding) same_place

    same_way_out : (last : StopId) → way_out task.feed task.query (stand_of_facts a) last ≡ way_out task.feed task.query (stand_of_facts b) last
    same_way_out last = ap (λ (p : Stand). way_out task.feed task.query p last) same_place

    -- so a ride that goes on from facts goes on from those that cover them
    catches_too : (ride : Ride) (facts : RideFacts) → IsCaughtFrom task.feed task.query (stand_of_facts b) b.rides ride facts →
        IsCaughtFrom task.feed task.query (stand_of_facts a) a.rides ride facts
    catches_too ride facts c = record {
      is = c.is;
      few = let one = covers.rides in let two = c.few in omega (arith, one, two);
      caught =
          subst (λ (way : Option ℕ). is_caught a.arrival way facts ≡ true) (sym (same_way facts.from))
          (caught_sooner a.arrival b.arrival (way_to task.feed task.query (stand_of_facts b) facts.from) facts covers.arrival c.caught);
      in_time = c.in_time;
    }

  -- ---- one more ride

  follow : (a b : Facts F) (ride : Ride) (move : M) (next : Facts F) → task.terms.IsFare a.rides a.fare → task.terms.IsFare b.rides b.fare →
      Covers task.at_most a b → IsStep task b ride move next → IsFollowed (ways task) a ride next
  follow a b ride move next of_a of_b covers step =
      let f = laws.fares.follow a b step.facts move of_a of_b covers step.pays in
      record {
        move = f.move;
        b = facts_after task.terms a step.facts f.move;
        step = record {
          fare = of_a;
          facts = step.facts;
          rides = catches_too a b covers ride step.facts step.rides;
          pays = f.pays;
          next = refl;
        };
        covers =
            subst (Covers task.at_most (facts_after task.terms a step.facts f.move)) (sym step.next)
            (record {
              stop = refl;
              arrival = itself step.facts.arrival.0;
              rides = let few = covers.rides in omega (arith, few);
              fresh = ridden a.rides ∙ sym (ridden b.rides);
              fare = f.below;
            });
      }

  steps_sound : (a b : Facts F) (ride : Ride) (move : M) → IsStep task a ride move b → task.terms.IsFare b.rides b.fare
  steps_sound a b ride move step =
      subst (λ (f : Facts F). task.terms.IsFare f.rides f.fare) (sym step.next) (laws.fares.stays a step.facts move step.fare step.pays)

  -- ---- ends

  -- the triple with this arrival
  abbrev end_at : Facts F → ℤ → Triple
  end_at a arrival = record { arrival = record { 0 = arrival }; rides = a.rides; price = record { 0 = task.terms.price a.fare } }

  ends_no_worse : (a b : Facts F) (last : StopId) (worse : Triple) → Covers task.at_most a b → IsEnd task b last worse →
      EndsNoWorse (ways task) a last worse
  unfolding end_arrival
  ends_no_worse a b last worse covers e = by (way_out task.feed task.query (stand_of_facts b) last) refl e.arrives
    where
      sooner : (x x' y' : ℤ) (s : ℕ) → x ≤ℤ x' → x' +ℤ pos s ≡ y' → (x +ℤ pos s) ≤ℤ y'
      sooner x x' y' s le e = omega (arith, ints, le, e)

      dearer : (p p' q : ℤ) → p ≤ℤ p' → q ≡ p' → p ≤ℤ q
      dearer p p' q le e = omega (arith, ints, le, e)

      by : (way : Option ℕ) → way_out task.feed task.query (stand_of_facts b) last ≡ way →
          option_map (λ s. b.arrival +ℤ pos s) way ≡ Some worse.arrival.0 → EndsNoWorse (ways task) a last worse
      by None is arrives = absurd (none-some _ arrives)
      by (Some s) is arrives =
          let later = sooner a.arrival b.arrival worse.arrival.0 s covers.arrival (same_Some _ _ arrives) in
          let way = same_way_out a b covers last ∙ is in
          record {
            result = end_at a (a.arrival +ℤ pos s);
            end = record {
              ends = e.ends;
              arrives = ap (option_map (λ (w : ℕ). a.arrival +ℤ pos w)) way;
              in_time = no_later _ _ _ later e.in_time;
              rides = refl;
              price = refl;
            };
            below =
                parts_below (end_at a (a.arrival +ℤ pos s)) worse later
                (let few = covers.rides in let same = e.rides in omega (arith, few, same))
                (dearer (task.terms.price a.fare) (task.terms.price b.fare) worse.price.0 (laws.fares.costs a.fare b.fare covers.fare) e.price);
          }

  -- ---- the laws of a search

  pub ways_lawful : AreLawful (ways task)
  ways_lawful = record {
    starts = λ a start. subst (λ (f : Facts F). task.terms.IsFare f.rides f.fare) (sym start.1) laws.fares.begins;
    steps = λ a b ride move step. steps_sound a b ride move step;
    onward = covers-trans;
    follow = λ a b ride move next of_a of_b covers step. follow a b ride move next of_a of_b covers step;
    ends = λ a b last worse of_a of_b covers end. ends_no_worse a b last worse covers end;
  }

  -- labels tell which cover which
  pub cover_test : IsCoverTest (search_of task)
  cover_test = record {
    itself = (cover_laws task.at_most laws.order).reflexive;
    tells = covers-tells task.at_most;
    fewer = λ x y is. (covers-tells task.at_most x y is).rides;
  }
