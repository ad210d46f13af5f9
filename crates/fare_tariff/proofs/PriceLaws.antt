-- How little further rides can cost, by what one move leads to, and that no journey costs too much to be told.
use Rattle.std.proofs.Common.{◌≡◌, refl, sym, ◌∙◌, subst, ap, ℕ, zero, suc, ◌+◌, ◌*◌, ◌^◌, ◌<◌, ◌≤◌, add-one, arith, ℤ, pos, ◌+ℤ◌, ◌≤ℤ◌, ◌<ℤ◌}
use Rattle.std.specs.Prelude.{Bool, true, false, List, Some, nat_abs}
use Rattle.std.specs.Option.{ForSome}
use Rattle.std.proofs.lemmas.Int.{ints}
use Rattle.std.proofs.lemmas.Option.{same_Some}
use Rattle.transit_base.specs.Limits.{most_time}
use Rattle.feed_rows.specs.Limits.{most_rides}
use Rattle.feed_rows.specs.declared.fares.Triple.{Triple}
use Rattle.feed_rows.specs.declared.journeys.Query.{Query}
use Rattle.feed_rows.specs.declared.journeys.Ride.{Ride}
use Rattle.feed_rows.specs.declared.states.Move.{Move}
use Rattle.feed_rows.specs.FeedRows.{FeedRows}
use Rattle.feed_rows.specs.LabelCover.{price_so_far}
use Rattle.feed_rows.specs.Legs.{leg_facts}
use Rattle.feed_rows.specs.PartialJourneys.{LabelFacts}
use Rattle.feed_rows.specs.SoundFeed.{IsSoundFeed}
use Rattle.feed_laws.proofs.RideLaws.{ride_facts_timed}
use Rattle.feed_laws.proofs.SoundTrips.{sound_trip}
use Rattle.fare_laws.proofs.SmallLaws.{move_small}
use Rattle.fare_bounds.specs.FareBounds.{AreFareBounds, BoundLists, late_after, least_late, least_more}
use Rattle.plan_rides.specs.InTime.{IsWithinWindow}
use Rattle.round_laws.specs.LabelSteps.{IsLabelStep, ways as label_ways}
use Rattle.round_terms.specs.Costs.{CostOn, IsLateIf, LeadsOn}
use Rattle.round_terms.specs.Tasks.{Asked, Task, task_of}
use Rattle.round_terms.specs.Terms.{Facts}
use Rattle.search_laws.specs.Ways.{LeadsBy}
use Rattle.fare_tariff.specs.declared.fare.Fare.{Fare}
use Rattle.fare_tariff.specs.FareTerms.{AreLeast, IsFare, IsLateAfter, Serves, TariffOf, at_most, fare_task, fare_terms, label_facts}
use Rattle.fare_tariff.specs.Lasts.{AreLastMoves}
use Rattle.fare_tariff.specs.Prices.{far, least_on}
use Rattle.fare_tariff.proofs.StepLaws.{step_within}
use Rattle.fare_tariff.proofs.WayLaws.{leads_of, step_of}

below : (x y z : ℤ) → x ≤ℤ y → y ≤ℤ z → x ≤ℤ z
below x y z p q = omega (arith, ints, p, q)

module _ (feed : FeedRows) (query : Query) (lasts : List Bool) (bounds : BoundLists) (sound : IsSoundFeed feed)
    (are : AreFareBounds feed query.buyer query.rides lasts bounds) (last : AreLastMoves feed query lasts) where
  -- what is told of so many further rides after such facts
  abbrev told : ℕ → LabelFacts → ℤ
  told more a = least_more bounds more a.state a.paid a.held

  -- no journey that takes so many further rides costs less
  pub leads_above : (n : ℕ) (a : LabelFacts) (triple : Triple) → n < query.rides → IsWithinWindow query a.arrival →
      LeadsBy (label_ways feed query) (suc n) a triple → told (n + 1) a ≤ℤ triple.price.0
  leads_above zero a triple few within leads =
      let step = leads.3 in
      subst (λ (z : ℤ). told 1 a ≤ℤ z) (sym leads.4.1.price)
      (subst (λ (x : LabelFacts). told 1 a ≤ℤ price_so_far x) (sym step.next)
      (are.ends 0 few a.state a.paid a.held (leg_facts feed step.facts) leads.1 step.pays
      (last a leads.2 leads.0 leads.1 within step leads.4.0 triple leads.4.1)))
  leads_above (suc n) a triple few within leads =
      let step = leads.3 in
      below _ _ _ (on (suc n) few)
      (subst (λ m. told m leads.2 ≤ℤ triple.price.0) (add-one n)
      (leads_above n leads.2 triple (omega (arith, few)) (step_within feed query a leads.2 leads.0 leads.1 sound within step) leads.4))
    where
      on : (m : ℕ) → m < query.rides → told (m + 1) a ≤ℤ told m leads.2
      on m lt =
          subst (λ (x : LabelFacts). told (m + 1) a ≤ℤ told m x) (sym leads.3.next)
          (are.on m lt a.state a.paid a.held (leg_facts feed leads.3.facts) leads.1 leads.3.pays)

  -- the leg that is a ride which departs later than told is late, and doesn't arrive before it departs
  late : (a b : LabelFacts) (ride : Ride) (move : Move) (step : IsLabelStep feed query a ride move b) →
      IsLateAfter bounds a.state step.facts →
      ForSome (late_after bounds a.state) (λ moment. moment <ℤ (leg_facts feed step.facts).departure.0)
      × ((leg_facts feed step.facts).departure.0 ≤ℤ (leg_facts feed step.facts).arrival.0)
  unfolding leg_facts
  late a b ride move step is = (
    λ moment at. subst (λ (z : ℤ). z <ℤ step.facts.departure.0) (same_Some _ _ (sym is.is ∙ at)) is.later,
    (ride_facts_timed feed ride step.facts most_time (sound_trip feed ride.trip sound) step.rides.is).forward,
  )

  -- what is told of a late ride and so many more
  abbrev told_late : ℕ → LabelFacts → ℤ
  told_late more a = least_late bounds more a.state a.paid a.held

  -- no journey that goes on by a late ride and so many more costs less
  pub late_above : (n : ℕ) (a b : LabelFacts) (ride : Ride) (move : Move) (step : IsLabelStep feed query a ride move b) (triple : Triple) →
      n < query.rides → IsWithinWindow query a.arrival → IsLateAfter bounds a.state step.facts →
      LeadsBy (label_ways feed query) n b triple →
      told_late (n + 1) a ≤ℤ triple.price.0
  late_above zero a b ride move step triple few within is leads =
      let comes = late a b ride move step is in
      subst (λ (z : ℤ). told_late 1 a ≤ℤ z) (sym leads.1.price)
      (subst (λ (x : LabelFacts). told_late 1 a ≤ℤ price_so_far x) (sym step.next)
      (are.late_ends 0 few a.state a.paid a.held (leg_facts feed step.facts) move step.pays comes.0 comes.1
      (last a b ride move within step leads.0 triple leads.1)))
  late_above (suc n) a b ride move step triple few within is leads =
      let comes = late a b ride move step is in
      below _ _ _ (on (suc n) few comes.0 comes.1)
      (subst (λ m. told m b ≤ℤ triple.price.0) (add-one n)
      (leads_above n b triple (omega (arith, few)) (step_within feed query a b ride move sound within step) leads))
    where
      on : (m : ℕ) → m < query.rides →
          ForSome (late_after bounds a.state) (λ moment. moment <ℤ (leg_facts feed step.facts).departure.0) →
          (leg_facts feed step.facts).departure.0 ≤ℤ (leg_facts feed step.facts).arrival.0 → told_late (m + 1) a ≤ℤ told m b
      on m lt comes forward =
          subst (λ (x : LabelFacts). told_late (m + 1) a ≤ℤ told m x) (sym step.next)
          (are.late_on m lt a.state a.paid a.held (leg_facts feed step.facts) move step.pays comes forward)

-- ---- no journey costs too much

-- so many further rides add no more than this to what is paid
leads_low : (feed : FeedRows) (query : Query) → IsSoundFeed feed → (n : ℕ) (a : LabelFacts) (triple : Triple) →
    nat_abs a.held ≤ 10 ^ 12 → LeadsBy (label_ways feed query) n a triple → triple.price.0 ≤ℤ (a.paid +ℤ pos (n * (3 * 10 ^ 12) + 10 ^ 12))
leads_low feed query sound zero a triple low leads =
    let is = leads.1.price in here triple.price.0 a.paid a.held is low
  where
    here : (z p h : ℤ) → z ≡ p +ℤ h → nat_abs h ≤ 10 ^ 12 → z ≤ℤ (p +ℤ pos (0 * (3 * 10 ^ 12) + 10 ^ 12))
    here z p h is low = omega (arith, ints, is, low)
leads_low feed query sound (suc n) a triple low leads =
    let step = leads.3 in
    let small = move_small feed query.buyer a.state a.held (leg_facts feed step.facts) leads.1 sound low step.pays in
    further triple.price.0 a.paid leads.1.paid.0 leads.2.paid (ap (λ (x : LabelFacts). x.paid) step.next) small.paid
    (leads_low feed query sound n leads.2 triple
    (subst (λ (x : LabelFacts). nat_abs x.held ≤ 10 ^ 12) (sym step.next) small.held) leads.4)
  where
    further : (z p m q : ℤ) → q ≡ p +ℤ m → nat_abs m ≤ 3 * 10 ^ 12 → z ≤ℤ (q +ℤ pos (n * (3 * 10 ^ 12) + 10 ^ 12)) →
        z ≤ℤ (p +ℤ pos (suc n * (3 * 10 ^ 12) + 10 ^ 12))
    further z p m q is low le = omega (arith, ints, is, low, le)

-- nothing costs as much as what is far to which a fare leads by no more rides than a query can allow
never_far : (feed : FeedRows) (query : Query) → IsSoundFeed feed → (n : ℕ) (a : LabelFacts) (triple : Triple) → n ≤ most_rides →
    a.rides ≤ most_rides → nat_abs a.paid ≤ 3 * 10 ^ 12 * a.rides → nat_abs a.held ≤ 10 ^ 12 → LeadsBy (label_ways feed query) n a triple →
    far ≤ℤ triple.price.0 → ⊥
never_far feed query sound n a triple few rides paid held leads costs =
    over triple.price.0 a.paid a.rides n few rides paid costs (leads_low feed query sound n a triple held leads)
  where
    over : (z p : ℤ) (k m : ℕ) → m ≤ 8 → k ≤ 8 → nat_abs p ≤ 3 * 10 ^ 12 * k → far ≤ℤ z →
        z ≤ℤ (p +ℤ pos (m * (3 * 10 ^ 12) + 10 ^ 12)) → ⊥
    over z p k m a b c d e = omega (arith, ints, a, b, c, d, e)

-- ---- what a tariff tells

module _ (of : TariffOf) (loose : Bool) (given : List Triple) (sound : IsSoundFeed of.feed) where
  abbrev task : Task Fare Move
  task = fare_task of loose given

  -- no journey costs less than what is told of its next rides
  pub least_told : AreLeast of.feed of.query of.bounds → (n : ℕ) (a : Facts Fare) (late : Bool) (triple : Triple) → n < of.query.rides →
      IsWithinWindow of.query a.arrival → LeadsOn task (IsLateIf (fare_terms of) a late) n a triple →
      least_on of.bounds late n (label_facts a) ≤ℤ triple.price.0
  unfolding step_of
  least_told are n a true triple few within leads =
      let b = leads.2 in
      late_above of.feed of.query are.lasts of.bounds sound are.bounds are.are n (label_facts a) (label_facts b) leads.0 leads.1
      (step_of of loose given a b leads.0 leads.1 leads.3) triple few within (leads.4 refl) (leads_of of loose given n b triple leads.5)
  least_told are n a false triple few within leads =
      let b = leads.2 in
      leads_above of.feed of.query are.lasts of.bounds sound are.bounds are.are n (label_facts a) triple few within
      (leads_of of loose given (suc n) a triple (leads.0, leads.1, b, leads.3, leads.5))

  -- no journey costs as much as what is far
  pub none_far : of.query.rides ≤ most_rides → (n : ℕ) (a : Facts Fare) (late : Bool) (triple : Triple) → IsFare a.rides a.fare →
      a.rides + n < of.query.rides → LeadsOn task (IsLateIf (fare_terms of) a late) n a triple → far ≤ℤ triple.price.0 → ⊥
  none_far most n a late triple fare few leads costs =
      never_far of.feed of.query sound (suc n) (label_facts a) triple (omega (arith, few, most)) (omega (arith, few, most))
      fare.paid fare.held
      (leads_of of loose given (suc n) a triple (leads.0, leads.1, leads.2, leads.3, leads.5)) costs

-- ---- whatever is asked of a tariff that serves is asked of its own feed and query

abbrev own_asked : TariffOf → Bool → List Triple → Asked TariffOf
own_asked of loose given =
    record { tariff = of; feed = of.feed; query = of.query; whole = of.whole; loose = loose; given = given }

same_asked : (asked : Asked TariffOf) → Serves asked → own_asked asked.tariff asked.loose asked.given ≡ asked
same_asked asked serves =
    by asked.tariff.feed asked.feed asked.tariff.query asked.query asked.tariff.whole asked.whole serves.feed serves.query serves.whole
  where
    by : (f f' : FeedRows) (q q' : Query) (w w' : Bool) → f ≡ f' → q ≡ q' → w ≡ w' →
        ◌≡◌ {A = Asked TariffOf}
        (record { tariff = asked.tariff; feed = f; query = q; whole = w; loose = asked.loose; given = asked.given })
        (record { tariff = asked.tariff; feed = f'; query = q'; whole = w'; loose = asked.loose; given = asked.given })
    by f f' q q' w w' e g h = rw (e, g, h) refl

pub by_own : (P : Asked TariffOf → Type 0) →
    ((of : TariffOf) (loose : Bool) (given : List Triple) → Serves (own_asked of loose given) → P (own_asked of loose given)) →
    (asked : Asked TariffOf) → Serves asked → P asked
by_own P own asked serves =
    subst P (same_asked asked serves)
    (own asked.tariff asked.loose asked.given (subst Serves (sym (same_asked asked serves)) serves))

-- no journey costs less that goes on so
pub fare_cost_on : (asked : Asked TariffOf) → Serves asked → (late : Bool) (behind : ℕ) (a : Facts Fare) → IsFare a.rides a.fare →
    IsWithinWindow asked.query a.arrival → a.rides + behind < asked.query.rides →
    CostOn (task_of at_most fare_terms asked) (IsLateIf (fare_terms asked.tariff) a late) behind a
    (Some (record { 0 = least_on asked.tariff.bounds late behind (label_facts a) }))
fare_cost_on asked serves late behind a fare =
    by_own (λ (asked : Asked TariffOf). IsWithinWindow asked.query a.arrival → a.rides + behind < asked.query.rides →
    CostOn (task_of at_most fare_terms asked) (IsLateIf (fare_terms asked.tariff) a late) behind a
    (Some (record { 0 = least_on asked.tariff.bounds late behind (label_facts a) })))
    (λ of loose given own within few triple leads.
    record {
      least = record { 0 = least_on of.bounds late behind (label_facts a) };
      is = refl;
      below = least_told of loose given own.sound own.least behind a late triple (omega (arith, few)) within leads;
    }) asked serves

-- no journey goes on so where it would cost more than any
pub far_never : (asked : Asked TariffOf) → Serves asked → (late : Bool) (behind : ℕ) (a : Facts Fare) → IsFare a.rides a.fare →
    IsWithinWindow asked.query a.arrival → a.rides + behind < asked.query.rides →
    far ≤ℤ least_on asked.tariff.bounds late behind (label_facts a) → (triple : Triple) →
    LeadsOn (task_of at_most fare_terms asked) (IsLateIf (fare_terms asked.tariff) a late) behind a triple → ⊥
far_never asked serves late behind a fare =
    by_own (λ (asked : Asked TariffOf). IsWithinWindow asked.query a.arrival → a.rides + behind < asked.query.rides →
    far ≤ℤ least_on asked.tariff.bounds late behind (label_facts a) → (triple : Triple) →
    LeadsOn (task_of at_most fare_terms asked) (IsLateIf (fare_terms asked.tariff) a late) behind a triple → ⊥)
    (λ of loose given own within few costs triple leads.
    none_far of loose given own.sound own.usual.rides behind a late triple fare few leads
    (below far (least_on of.bounds late behind (label_facts a)) triple.price.0 costs
    (least_told of loose given own.sound own.least behind a late triple (omega (arith, few)) within leads))) asked serves
