-- What facts end in is an entry of the query, and each entry is an end of facts.
use Rattle.std.proofs.Common.{◌≡◌, refl, sym, ◌∙◌, ap, ℕ, zero, suc, length, arith, ℤ, ◌+ℤ◌, ◌-ℤ◌}
use Rattle.std.specs.Prelude.{Some, is_some}
use Rattle.std.proofs.lemmas.Int.{ints}
use Rattle.std.proofs.lemmas.Option.{same_Some}
use Rattle.transit_base.specs.declared.numbers.StopId.{StopId}
use Rattle.feed_rows.specs.declared.fares.Choice.{Choice}
use Rattle.feed_rows.specs.declared.fares.Entry.{Entry}
use Rattle.feed_rows.specs.declared.fares.Triple.{Triple}
use Rattle.feed_rows.specs.declared.journeys.Query.{Query}
use Rattle.feed_rows.specs.FareStates.{held_amount, paid_amount}
use Rattle.feed_rows.specs.FareSums.{fare_sum}
use Rattle.feed_rows.specs.FeedRows.{FeedRows}
use Rattle.feed_rows.specs.JourneyEntries.{rides_price, IsEntry}
use Rattle.feed_rows.specs.Journeys.{final_arrival, arrival_after}
use Rattle.feed_rows.specs.JourneyStands.{Stand, stand_at_end, end_arrival}
use Rattle.feed_rows.specs.LabelCover.{price_so_far}
use Rattle.feed_rows.specs.PartialJourneys.{PartialJourney, LabelFacts, journey_to}
use Rattle.feed_rows.specs.SoundFeed.{IsSoundFeed}
use Rattle.feed_laws.proofs.JourneyLaws.{travelled_of_journey}
use Rattle.round_laws.specs.LabelSteps.{HasFacts, stand_of_facts, IsLabelEnd}
use Rattle.round_laws.proofs.PartLaws.{HasParts, parts_of_facts, at_start, at_last, part_paid, facts_of_partial}
use Rattle.round_laws.proofs.TimeLaws.{rides_in_time}

-- ---- an entry of an end

-- the sum is what is paid and what is held
sum_of_paid : (feed : FeedRows) (choice : Choice) →
    fare_sum feed choice ≡ paid_amount feed choice +ℤ held_amount feed choice
unfolding paid_amount
sum_of_paid feed choice = by (fare_sum feed choice) (held_amount feed choice)
  where
    by : (s h : ℤ) → s ≡ (s -ℤ h) +ℤ h
    by s h = omega (arith, ints)

-- a partial journey costs what its facts say
price_of_part : (feed : FeedRows) (query : Query) (part : PartialJourney) (a : LabelFacts) →
    HasFacts feed query part a → rides_price feed part.rides part.choice query.buyer ≡ Some (price_so_far a)
price_of_part feed query part a h =
    let p = parts_of_facts feed query part a h.facts in
    let legs = p.is in
    let pays = part_paid feed query part p.legs h.partial p.is in
    rw (legs, pays) (ap Some (sum_of_paid feed part.choice ∙ both _ _ _ _ p.paid p.held))
  where
    both : (x y h k : ℤ) → x ≡ y → h ≡ k → x +ℤ h ≡ y +ℤ k
    both x y h k e f = rw (e, f) refl

-- its final arrival is counted from where its facts say that one stands
arrival_of_part : (feed : FeedRows) (query : Query) (part : PartialJourney) (a : LabelFacts) (last : StopId) →
    HasFacts feed query part a →
    final_arrival feed query (journey_to last part) ≡ end_arrival feed query (stand_of_facts a) last
unfolding end_arrival
arrival_of_part feed query part a last h = by (length part.rides) refl
  where
    known : HasParts feed query part a
    known = parts_of_facts feed query part a h.facts

    by : (n : ℕ) → length part.rides ≡ n →
        arrival_after feed query (journey_to last part) n ≡ end_arrival feed query (stand_of_facts a) last
    by zero none = ap (λ (p : Stand). end_arrival feed query p last) (at_start feed query part a known none)
    by (suc i) some =
        let s = at_last feed query part a i known some in
        let known_ride = s.is in
        let at_end : arrival_after feed query (journey_to last part) (suc i)
        ≡ end_arrival feed query (stand_at_end s.ride) last = rw known_ride refl in
        at_end ∙ ap (λ (p : Stand). end_arrival feed query p last) s.stands

-- what the facts of a partial journey end in is an entry of the query
pub entry_of_end : (feed : FeedRows) (query : Query) (part : PartialJourney) (a : LabelFacts) (last : StopId)
    (triple : Triple) → HasFacts feed query part a → IsLabelEnd feed query a last triple →
    IsEntry feed query (record { triple = triple; journey = journey_to last part; choice = part.choice })
entry_of_end feed query part a last triple h e = record {
  journey = record {
    starts = h.partial.starts;
    ends = e.ends;
    rides = h.partial.rides;
    few = h.partial.few;
    begins = h.partial.begins;
    goes_on = h.partial.goes_on;
    arrives = arrival_of_part feed query part a last h ∙ e.arrives;
    in_time = e.in_time;
  };
  rides = let p = parts_of_facts feed query part a h.facts in e.rides ∙ sym p.rides;
  price = price_of_part feed query part a h ∙ ap Some (sym e.price);
}

-- ---- an end of an entry

-- the rides of an entry, and how it pays them
abbrev pub part_of_entry : Entry → PartialJourney
part_of_entry entry = record { first = entry.journey.first; rides = entry.journey.rides; choice = entry.choice }

-- the entry is an end of the facts of a partial journey
pub record IsEnded (feed : FeedRows) (query : Query) (entry : Entry) : Type 0 where
  pub a : LabelFacts
  pub has : HasFacts feed query (part_of_entry entry) a
  pub end : IsLabelEnd feed query a entry.journey.last entry.triple

-- each entry of the query is such
pub end_of_entry : (feed : FeedRows) (query : Query) (entry : Entry) → IsSoundFeed feed → IsEntry feed query entry →
    IsEnded feed query entry
end_of_entry feed query entry sound e =
    let j = e.journey in
    let part = part_of_entry entry in
    let course = travelled_of_journey feed query entry.journey entry.triple.arrival.0 j in
    let known = facts_of_partial feed query part (record {
      starts = j.starts;
      rides = j.rides;
      few = j.few;
      begins = j.begins;
      goes_on = j.goes_on;
      in_time = rides_in_time feed query entry.journey entry.triple.arrival.0 sound course;
      pays = ap is_some e.price;
    }) in
    let p = parts_of_facts feed query part known.0 known.1.facts in
    record {
      a = known.0;
      has = known.1;
      end = record {
        ends = j.ends;
        arrives = sym (arrival_of_part feed query part known.0 entry.journey.last known.1) ∙ j.arrives;
        in_time = j.in_time;
        rides = e.rides ∙ p.rides;
        price = same_Some _ _ (sym e.price ∙ price_of_part feed query part known.0 known.1);
      };
    }
