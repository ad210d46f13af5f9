-- Behind a label rides needn't be tried that are settled after it, and after another that is as cheap, from which they were tried.
use Rattle.std.proofs.Common.{◌≡◌, refl, sym, ◌∙◌, ap, subst, ℕ, ◌+◌, ◌⊎◌, inl, inr, ⊎_elim, true, List, arith, ℤ, ◌≤ℤ◌, ◌<ℤ◌}
use Rattle.std.specs.Prelude.{All, Contains, Option, Some, None, IfSome, int_le}
use Rattle.std.proofs.lemmas.Bool.{ne_eqb}
use Rattle.std.proofs.lemmas.Int.{ints}
use Rattle.std.proofs.lemmas.List.Elements.{All-contains, All-push, All-weaker}
use Rattle.std.proofs.lemmas.Option.{same_Some}
use Rattle.transit_base.specs.Limits.{most_time}
use Rattle.feed_rows.specs.declared.journeys.RideFacts.{RideFacts}
use Rattle.feed_rows.specs.SoundFeed.{IsSoundFeed}
use Rattle.feed_laws.proofs.RideLaws.{ride_facts_timed}
use Rattle.feed_laws.proofs.SoundTrips.{sound_trip}
use Rattle.plain_laws.proofs.Laws.{slice_get-Contains}
use Rattle.plan_rides.specs.InTime.{IsRight, deadline}
use Rattle.plan_rides.specs.Reached.{Kept}
use Rattle.plan_rides.specs.declared.caught.CaughtRide.{CaughtRide}
use Rattle.plan_rides.specs.declared.positions.Reached.{Reached}
use Rattle.search_laws.specs.Stores.{IsHeldBelow}
use Rattle.round_terms.specs.declared.finals.Final.{Final}
use Rattle.round_terms.specs.declared.label.Label.{Label}
use Rattle.round_terms.specs.Labels.{facts_of}
use Rattle.round_terms.specs.Legs.{AreKnown}
use Rattle.round_terms.specs.Steps.{IsStep, stand_of_facts}
use Rattle.round_terms.specs.Tasks.{HasLaws, Task}
use Rattle.round_terms.specs.Terms.{Covers, Facts, facts_after}
use Rattle.round_search.specs.declared.search.Source.{Source}
use Rattle.round_search.specs.declared.settled.Settled.{Settled}
use Rattle.round_search.specs.declared.settled.SettledLabel.{SettledLabel}
use Rattle.round_search.specs.Searches.{IsSource, StepsBy}
use Rattle.round_search.specs.Settled.{AddsLabel, ArePassed, HasCheaper, IsDone, IsSettledAt, IsTried, IsTriedBy, StayLabels}
use Rattle.round_search.proofs.FoundLaws.{lacks_below}
use Rattle.round_search.proofs.LawfulLaws.{covers-trans}
use Rattle.round_search.proofs.RideLaws.{step_after}

past : (x y z : ℤ) → x ≤ℤ y → y <ℤ z → x <ℤ z
past x y z p q = omega (arith, ints, p, q)

-- ---- labels that are kept

-- what was tried of labels that stay is tried
pub tried_kept : {F M : Type 0} (task : Task F M) (finals : List Final) (count : ℕ) (bags : List (Label F M)) (rides kept : Kept)
    (old new : Settled) → StayLabels rides old kept new → All (IsTried task finals count rides.rides bags) old.labels.items →
    All (IsTried task finals count kept.rides bags) new.labels.items
tried_kept task finals count bags rides kept old new (inl same) tried =
    subst (All (IsTried task finals count kept.rides bags)) (sym same.1)
    (subst (λ (k : Kept). All (IsTried task finals count k.rides bags) old.labels.items) (sym same.0) tried)
tried_kept task finals count bags rides kept old new (inr none) tried =
    subst (All (IsTried task finals count kept.rides bags)) (sym none) (λ k d lt. absurd (omega (arith, lt)))

-- what holds of all labels and of the one more holds of all then
pub labels_added : (P : SettledLabel → Type 0) (own : Option SettledLabel) (old new : List SettledLabel) → AddsLabel own old new →
    All P old → IfSome own P → All P new
labels_added P own old new (inl same) all here = subst (All P) (sym same) all
labels_added P own old new (inr added) all here =
    subst (All P) (sym added.2) (All-push P old added.0 all (subst (λ (o : Option SettledLabel). IfSome o P) added.1 here))

-- what holds of a label that is settled
pub if_settled : (P Q : SettledLabel → Type 0) → ((own : SettledLabel) → P own → Q own) → (o : Option SettledLabel) → IfSome o P → IfSome o Q
if_settled P Q more None is = is
if_settled P Q more (Some own) is = more own is

module _ {F M : Type 0} (task : Task F M) (finals : List Final) where
  -- what was done still is where no label is lost
  done_still : (old new : List (Label F M)) →
      ((b : Facts F) → IsHeldBelow (Covers task.at_most) facts_of old b → IsHeldBelow (Covers task.at_most) facts_of new b) →
      (b : Facts F) → IsDone task finals old b → IsDone task finals new b
  done_still old new still b (inl held) = inl (still b held)
  done_still old new still b (inr lack) = inr lack

  pub tried_still : (count : ℕ) (rides : List CaughtRide) (old new : List (Label F M)) →
      ((b : Facts F) → IsHeldBelow (Covers task.at_most) facts_of old b → IsHeldBelow (Covers task.at_most) facts_of new b) →
      (labels : List SettledLabel) → All (IsTried task finals count rides old) labels → All (IsTried task finals count rides new) labels
  tried_still count rides old new still labels all =
      All-weaker (IsTried task finals count rides old) (IsTried task finals count rides new)
      (λ own tried. record {
        facts = tried.facts;
        counts = tried.counts;
        fare = tried.fare;
        price = tried.price;
        each = λ caught has departs.
            let by = tried.each caught has departs in
            record { settled = by.settled; done = λ move pays. done_still old new still _ (by.done move pays) };
      }) labels all

module _ {F M : Type 0} (task : Task F M) (laws : HasLaws task) (sound : IsSoundFeed task.feed) (finals : List Final)
    (bags : List (Label F M)) where
  -- so is what is covered
  pub done_below : (a b : Facts F) → task.terms.IsFare a.rides a.fare → task.terms.IsFare b.rides b.fare → Covers task.at_most a b →
      IsDone task finals bags a → IsDone task finals bags b
  done_below a b of_a of_b covers (inl held) = inl (held.0, held.1, covers-trans task laws (facts_of held.0) a b held.2 covers)
  done_below a b of_a of_b covers (inr lack) = inr (lacks_below task laws sound finals a b of_a of_b covers lack)

  -- what a ride leads to from facts after which it is settled is done, where it was tried from others that are as cheap
  done_cheaper : (a b next : Facts F) (caught : CaughtRide) (move : M) → task.terms.IsFare a.rides a.fare → task.terms.IsFare b.rides b.fare →
      a.rides ≡ b.rides → task.terms.price a.fare ≤ℤ task.terms.price b.fare → IsTriedBy task finals bags a caught →
      task.terms.IsSettled b caught.facts → task.terms.Pays b caught.facts move → next ≡ facts_after task.terms b caught.facts move →
      IsDone task finals bags next
  done_cheaper a b next caught move of_a of_b counts cheap tried settled pays is =
      let ride = caught.facts in
      let no_worse = laws.fares.settles a b ride move of_a of_b tried.settled settled cheap pays in
      let on = facts_after task.terms a ride no_worse.move in
      let then = facts_after task.terms b ride move in
      subst (IsDone task finals bags) (sym is)
      (done_below on then (laws.fares.stays a ride no_worse.move of_a no_worse.pays) (laws.fares.stays b ride move of_b pays)
      (record {
        stop = refl;
        arrival = itself ride.arrival.0;
        rides = omega (arith, counts);
        fresh = ne_eqb (a.rides + 1) 0 (λ e. omega (arith, e)) ∙ sym (ne_eqb (b.rides + 1) 0 (λ e. omega (arith, e)));
        fare = no_worse.below;
      })
      (tried.done no_worse.move no_worse.pays))
    where
      itself : (z : ℤ) → z ≤ℤ z
      itself z = omega (arith, ints)

module _ {F M : Type 0} (task : Task F M) (laws : HasLaws task) (sound : IsSoundFeed task.feed) (finals : List Final) (count : ℕ)
    (x : Label F M) (fare : task.terms.IsFare x.rides x.fare) (counts : x.rides ≡ count) (reached : Reached) (rides : List CaughtRide)
    (Is : ℕ → RideFacts → Type 0) (known : AreKnown Is rides)
    (rights : (caught : CaughtRide) → Contains rides caught → int_le reached.earliest.0 caught.facts.departure.0 ≡ true →
    IsRight task.feed task.query (stand_of_facts (facts_of x)) caught) where
  -- a ride that departs later than the label's moment is settled after it
  settled_after : (own : SettledLabel) → IsSettledAt task Is x reached own → (caught : CaughtRide) → Contains rides caught →
      int_le reached.earliest.0 caught.facts.departure.0 ≡ true → own.since.0 <ℤ caught.facts.departure.0 →
      task.terms.IsSettled (facts_of x) caught.facts
  settled_after own at caught has since departs =
      let here = slice_get-Contains rides caught has in
      at.settled here.0 caught (known here.0 caught here.1) (rights caught has since).facts departs

  gets_there : (own : SettledLabel) → IsSettledAt task Is x reached own → (caught : CaughtRide) → own.since.0 <ℤ caught.facts.departure.0 →
      int_le reached.earliest.0 caught.facts.departure.0 ≡ true
  gets_there own at caught departs = by reached.earliest.0 own.since.0 caught.facts.departure.0 at.gets departs
    where
      by : (x y z : ℤ) → x ≤ℤ y → y <ℤ z → int_le x z ≡ true
      by x y z p q = grind (arith, ints, p, q)

  -- it is tried where all is done to which the rides lead
  pub tried_own : (bags : List (Label F M)) (source : Source F M) → source.label.now ≡ x → IsSource task source →
      ((caught : CaughtRide) → Contains rides caught → (b : Facts F) → StepsBy task (facts_of x) caught.ride b → IsDone task finals bags b) →
      (own : SettledLabel) → IsSettledAt task Is x reached own → IsTried task finals count rides bags own
  tried_own bags source same is done own at = record {
    facts = facts_of x;
    counts = counts;
    fare = fare;
    price = at.price;
    each = λ caught has departs.
        let since = gets_there own at caught departs in
        record {
          settled = settled_after own at caught has since departs;
          done = λ move pays. done caught has (facts_after task.terms (facts_of x) caught.facts move)
              (move, step caught (rights caught has since) move pays);
        };
  }
    where
      step : (caught : CaughtRide) → IsRight task.feed task.query (stand_of_facts (facts_of x)) caught → (move : M) →
          task.terms.Pays (facts_of x) caught.facts move →
          IsStep task (facts_of x) caught.ride move (facts_after task.terms (facts_of x) caught.facts move)
      step = subst (λ (y : Label F M). (caught : CaughtRide) → IsRight task.feed task.query (stand_of_facts (facts_of y)) caught → (move : M) →
          task.terms.Pays (facts_of y) caught.facts move →
          IsStep task (facts_of y) caught.ride move (facts_after task.terms (facts_of y) caught.facts move)) same
          (λ caught right move pays. step_after task laws source is caught right move pays)

  -- all is done past the moment that is told
  pub passed_by : (bags : List (Label F M)) (labels : List SettledLabel) → All (IsTried task finals count rides bags) labels →
      (own : Option SettledLabel) → IfSome own (IsSettledAt task Is x reached) → (passed last : ℤ) → last ≡ deadline task.query →
      (passed ≡ last) ⊎ HasCheaper labels own passed → ArePassed task finals (facts_of x) reached.earliest.0 rides passed bags
  passed_by bags labels tried own at passed last is_last told caught b has since departs by =
      let step = by.1 in
      let right = rights caught has since in
      let ride : step.facts ≡ caught.facts = same_Some _ _ (sym step.rides.is ∙ right.facts) in
      ⊎_elim
      (λ late.
      let timed = ride_facts_timed task.feed caught.ride step.facts most_time (sound_trip task.feed caught.ride.trip sound) step.rides.is in
      absurd (never passed last (deadline task.query) caught.facts.departure.0 step.facts.departure.0 step.facts.arrival.0 late is_last departs
      (ap (λ (f : RideFacts). f.departure.0) ride) timed.forward step.rides.in_time))
      (λ cheaper.
      let here = subst (λ (o : Option SettledLabel). IfSome o (IsSettledAt task Is x reached)) cheaper.is at in
      let other = All-contains (IsTried task finals count rides bags) labels cheaper.other tried cheaper.has in
      done_cheaper task laws sound finals bags other.facts (facts_of x) b caught by.0 other.fare fare (other.counts ∙ sym counts)
      (cheap (task.terms.price other.facts.fare) cheaper.other.price.0 cheaper.label.price.0 (task.terms.price x.fare) other.price cheaper.price
      here.price)
      (other.each caught has (past cheaper.other.since.0 passed caught.facts.departure.0 cheaper.other_since departs))
      (settled_after cheaper.label here caught has since (past cheaper.label.since.0 passed caught.facts.departure.0 cheaper.since departs))
      (subst (λ (f : RideFacts). task.terms.Pays (facts_of x) f by.0) ride step.pays)
      (step.next ∙ ap (λ (f : RideFacts). facts_after task.terms (facts_of x) f by.0) ride))
      told
    where
      cheap : (a p q b : ℤ) → p ≡ a → p ≤ℤ q → q ≡ b → a ≤ℤ b
      cheap a p q b is le are = omega (arith, ints, is, le, are)

      never : (passed last until d e a : ℤ) → passed ≡ last → last ≡ until → passed <ℤ d → e ≡ d → e ≤ℤ a → a ≤ℤ until → ⊥
      never passed last until d e a p q r s t u = omega (arith, ints, p, q, r, s, t, u)
