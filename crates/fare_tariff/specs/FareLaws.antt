-- The terms of fares are lawful: a fare that is at most another pays each ride no worse, what goes on costs no less than was told, and of
-- fares from which no change to a ride is arranged the cheaper ones pay it no worse.
use Rattle.std.specs.Prelude.{◌≡◌, ℕ, ◌+◌, ◌*◌, ◌^◌, ◌≤◌, true, Option, Some, nat_abs, ℤ, ◌+ℤ◌, ◌≤ℤ◌}
use Rattle.std.proofs.Common.{refl, sym, ◌∙◌, ap, subst, arith}
use Rattle.std.proofs.lemmas.Bool.{ne_eqb}
use Rattle.std.proofs.lemmas.Int.{ints}
use Rattle.feed_rows.specs.declared.journeys.Query.{Query}
use Rattle.feed_rows.specs.declared.journeys.RideFacts.{RideFacts}
use Rattle.feed_rows.specs.declared.states.FareState.{FareState}
use Rattle.feed_rows.specs.declared.states.Move.{Move}
use Rattle.feed_rows.specs.FareSteps.{move_after}
use Rattle.feed_rows.specs.Legs.{leg_facts}
use Rattle.feed_rows.specs.SoundFeed.{IsSoundFeed}
use Rattle.fare_laws.proofs.AfreshLaws.{first_of_next, next_of_first}
use Rattle.fare_laws.proofs.LeadLaws.{leads_too}
use Rattle.fare_laws.proofs.SmallLaws.{move_small}
use Rattle.round_terms.specs.Tasks.{Asked}
use Rattle.round_terms.specs.Terms.{Covers, Facts, IsLawful, PaysNoWorse}
use Rattle.fare_tariff.specs.declared.fare.Fare.{Fare}
use Rattle.fare_tariff.specs.FareTerms.{IsFare, IsSettledFor, Serves, TariffOf, at_most, fare_terms, label_facts}
use Rattle.fare_tariff.specs.LeastLaws.{end_covered, end_low, end_stays}
use Rattle.fare_tariff.specs.FareOrder.{at_most-holds, at_most-tells}

-- nothing is paid before the first ride
pub fare_begins : (of : TariffOf) → IsFare 0 (fare_terms of).begins
fare_begins of = record { paid = omega arith; held = omega arith; stated = refl }

-- what one ride more can cost is within what so many can
paid_more : (p m : ℤ) (n : ℕ) → nat_abs p ≤ 3 * 10 ^ 12 * n → nat_abs m ≤ 3 * 10 ^ 12 → nat_abs (p +ℤ m) ≤ 3 * 10 ^ 12 * (n + 1)
paid_more p m n a b = omega (arith, ints, a, b)

-- with as much held no more is paid in all
with_held : (x y h k : ℤ) → x ≤ℤ y → h ≡ k → (x +ℤ h) ≤ℤ (y +ℤ k)
with_held x y h k le same = omega (arith, ints, le, same)

-- what is held is paid by both
paid_up : (a b p q m n : ℤ) → (a +ℤ p) ≤ℤ (b +ℤ q) → m ≡ p → n ≡ q → (a +ℤ m) ≤ℤ (b +ℤ n)
paid_up a b p q m n le e f = omega (arith, ints, le, e, f)

module _ (of : TariffOf) where
  abbrev Pays : Facts Fare → RideFacts → Move → Type 0
  Pays = (fare_terms of).Pays

  abbrev after : Facts Fare → RideFacts → Move → Fare
  after = (fare_terms of).after

  pub fare_stays : IsSoundFeed of.feed → (a : Facts Fare) (ride : RideFacts) (move : Move) → IsFare a.rides a.fare → Pays a ride move →
      IsFare (a.rides + 1) (after a ride move)
  fare_stays sound a ride move fare pays =
      let small = move_small of.feed of.query.buyer a.fare.state a.fare.held.0 (leg_facts of.feed ride) move sound fare.held pays in
      record {
        paid = paid_more a.fare.paid.0 move.paid.0 a.rides fare.paid small.paid;
        held = small.held;
        stated = ne_eqb (a.rides + 1) 0 (λ e. omega (arith, e));
      }

  -- moves that lead to the same state with as much held are no worse where no more is paid
  no_worse : (a b : Facts Fare) (ride : RideFacts) (move other : Move) → move.state ≡ other.state → move.held ≡ other.held →
      (a.fare.paid.0 +ℤ move.paid.0) ≤ℤ (b.fare.paid.0 +ℤ other.paid.0) → at_most (after a ride move) (after b ride other) ≡ true
  no_worse a b ride move other state held less =
      at_most-holds (after a ride move) (after b ride other) (record {
        spent = record {
          paid = less;
          price =
              with_held (a.fare.paid.0 +ℤ move.paid.0) (b.fare.paid.0 +ℤ other.paid.0) move.held.0 other.held.0 less
              (ap (λ h. h.0) held);
        };
        state = ap Some state;
      })

  follow : (a b : Facts Fare) (ride : RideFacts) (move : Move) → Covers at_most a b → Pays b ride move →
      PaysNoWorse at_most (fare_terms of) a ride (after b ride move)
  follow a b ride move covers pays =
      let leg = leg_facts of.feed ride in
      let below = at_most-tells a.fare b.fare covers.fare in
      let m =
      leads_too of.feed of.query.buyer a.fare.state a.fare.paid.0 a.fare.held.0 b.fare.paid.0 b.fare.held.0 leg move below.spent.paid
      below.spent.price
      (subst (λ (state : Option FareState). move_after of.feed of.query.buyer state b.fare.held.0 leg move ≡ Some move)
      (sym below.state) pays) in
      record { move = m.move; pays = m.is; below = no_worse a b ride m.move move m.state_is m.held_is m.paid_less }

  -- from a state from which no change to a leg is arranged a move is like one of a first leg, and so like one from any other such
  settles : (a b : Facts Fare) (ride : RideFacts) (move : Move) → IsSettledFor of.feed of.query.buyer a.fare.state ride →
      IsSettledFor of.feed of.query.buyer b.fare.state ride → (fare_terms of).price a.fare ≤ℤ (fare_terms of).price b.fare →
      Pays b ride move →
      PaysNoWorse at_most (fare_terms of) a ride (after b ride move)
  settles a b ride move own other cheaper pays =
      let leg = leg_facts of.feed ride in
      let paid_so =
      subst (λ (state : Option FareState). move_after of.feed of.query.buyer state b.fare.held.0 leg move ≡ Some move) other.is pays in
      let first = first_of_next of.feed of.query.buyer other.own b.fare.held.0 leg move (other.apart move) paid_so in
      let next = next_of_first of.feed of.query.buyer own.own a.fare.held.0 leg first.0 (own.apart first.0) first.1 in
      record {
        move = next.0;
        pays =
            subst (λ (state : Option FareState). move_after of.feed of.query.buyer state a.fare.held.0 leg next.0 ≡ Some next.0)
            (sym own.is) next.1;
        below =
            no_worse a b ride next.0 move (next.2.state ∙ sym first.2.state) (next.2.holds ∙ sym first.2.holds)
            (paid_up a.fare.paid.0 b.fare.paid.0 a.fare.held.0 b.fare.held.0 next.0.paid.0 move.paid.0 cheaper next.2.paid first.2.paid);
      }

  pub lawful : IsSoundFeed of.feed → IsLawful of.query.rides at_most (fare_terms of)
  lawful sound = record {
    begins = fare_begins of;
    stays = fare_stays sound;
    follow = λ a b ride move of_a of_b covers pays. follow a b ride move covers pays;
    costs = λ a b below. (at_most-tells a b below).spent.price;
    least_ends = λ a. end_low of.feed of.query of.whole (label_facts a);
    least_stays = λ a ride move few fare pays.
        end_stays of.feed of.query of.whole (label_facts a) ride (leg_facts of.feed ride) move few pays;
    least_below = λ a b covers.
        let below = at_most-tells a.fare b.fare covers.fare in
        end_covered of.feed of.query of.whole (label_facts a) (label_facts b) below.spent below.state covers.rides;
    settles = λ a b ride move of_a of_b own other cheaper pays. settles a b ride move own other cheaper pays;
  }

-- so is the tariff of a query over a sound feed, for as many rides as the query allows
pub fare_lawful : (asked : Asked TariffOf) → Serves asked → IsLawful asked.query.rides at_most (fare_terms asked.tariff)
fare_lawful asked serves =
    subst (λ (n : ℕ). IsLawful n at_most (fare_terms asked.tariff)) (ap (λ (query : Query). query.rides) serves.query)
    (lawful asked.tariff (subst IsSoundFeed (sym serves.feed) serves.sound))
