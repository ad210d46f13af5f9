-- The kinds of the legs that rides are, and their leg groups.
use Rattle.std.proofs.Common.{◌≡◌, sym, ◌∙◌, ap, subst, ⊎_elim, ℕ, ◌<◌, ◌≤◌, List, [], ◌∷◌, ◌++◌, length, get_or, pos, arith}
use Rattle.std.specs.Prelude.{All, Option, Some, None, slice_get}
use Rattle.std.proofs.lemmas.Bool.{cases_lt}
use Rattle.std.proofs.lemmas.List.{length_push}
use Rattle.std.proofs.lemmas.List.Elements.{All-contains}
use Rattle.std.proofs.lemmas.Option.{get_or_from_slice_get, same_Some, slice_get-get_or, slice_get_within}
use Rattle.transit_base.specs.declared.numbers.LegGroupId.{LegGroupId}
use Rattle.plain_laws.proofs.Laws.{slice_get-push_before, slice_get-push_last}
use Rattle.feed_rows.specs.declared.journeys.Buyer.{Buyer}
use Rattle.feed_rows.specs.declared.journeys.LegFacts.{LegFacts}
use Rattle.feed_rows.specs.declared.fares.LegChoice.{LegChoice}
use Rattle.feed_rows.specs.FeedRows.{FeedRows}
use Rattle.feed_rows.specs.Legs.{leg_facts}
use Rattle.fare_automaton.specs.Fewest.{AreEnough}
use Rattle.fare_automaton.specs.Known.{KnownPicks}
use Rattle.fare_bounds.proofs.FirstLaws.{AreFirst}
use Rattle.fare_bounds.specs.LastChanges.{AreLastChanges}
use Rattle.leg_kinds.specs.Kinds.{IsOfKind}
use Rattle.plan_rides.specs.declared.caught.CaughtRide.{CaughtRide}
use Rattle.ride_kinds.specs.RideKinds.{StayKnown}
use Rattle.round_terms.specs.Legs.{AreKnown}
use Rattle.fare_tariff.specs.declared.legs.FareLegs.{FareLegs}
use Rattle.fare_tariff.specs.FareTerms.{IsKnown}
use Rattle.fare_tariff.specs.Groups.{AreGroupsOf, AreKinds, FitKinds, HasGroup, IsGrouped, StayGroups}

-- a ride to read past the end of a list
abbrev pub no_ride : CaughtRide
no_ride =
    record {
      ride = record { trip = record { 0 = 0 }; day = record { 0 = pos 0 }; shift = pos 0; from = 0; to = 0 };
      facts = record {
        from = record { 0 = 0 };
        to = record { 0 = 0 };
        network = None;
        departure = record { 0 = pos 0 };
        arrival = record { 0 = pos 0 };
      };
    }

module _ (feed : FeedRows) (rides : List CaughtRide) where
  -- no number fits
  pub fit_none : (known : KnownPicks) → FitKinds feed known rides []
  fit_none known k caught number is at = let lt = slice_get_within [] k number at in absurd (omega (arith, lt))

  -- where more is known, what fitted still does
  pub fit_still : (old new : KnownPicks) (kinds : List ℕ) → StayKnown old new → FitKinds feed old rides kinds →
      FitKinds feed new rides kinds
  fit_still old new kinds still fit k caught number is at = still (leg_facts feed caught.facts) number (fit k caught number is at)

  -- and so does the number of the next ride's kind
  pub fit_more : (known : KnownPicks) (kinds : List ℕ) (n number : ℕ) (caught : CaughtRide) → length kinds ≡ n →
      slice_get rides n ≡ Some caught → IsOfKind known.lists (leg_facts feed caught.facts) number →
      FitKinds feed known rides kinds → FitKinds feed known rides (kinds ++ number ∷ [])
  fit_more known kinds n number caught many here kind fit k other own is at =
      let lt = slice_get_within (kinds ++ number ∷ []) k own at in
      let long = length_push kinds number in
      ⊎_elim
      (λ (lower : k < length kinds). fit k other own is (sym (slice_get-push_before kinds number k lower) ∙ at))
      (λ (upper : length kinds ≤ k).
      let same : k ≡ length kinds = omega (arith, lt, long, upper) in
      subst (IsOfKind known.lists (leg_facts feed other.facts)) (same_Some _ _ (sym (slice_get-push_last kinds number k same) ∙ at))
      (subst (λ (c : CaughtRide). IsOfKind known.lists (leg_facts feed c.facts) number)
      (same_Some _ _ (sym here ∙ ap (slice_get rides) (sym (same ∙ many)) ∙ is)) kind))
      (cases_lt k (length kinds))

-- ---- groups

-- more groups are those of the leg too
pub grouped_more : (feed : FeedRows) (buyer : Buyer) (old new : List (Option LegGroupId)) → StayGroups old new →
    (leg : LegFacts) → IsGrouped feed buyer old leg → IsGrouped feed buyer new leg
grouped_more feed buyer old new still leg has pick is group of_group = still group (has pick is group of_group)

-- the groups of options that are enough are those of all
pub grouped_by : (feed : FeedRows) (buyer : Buyer) (groups : List (Option LegGroupId)) (leg : LegFacts) (picks : List LegChoice) →
    AreEnough feed buyer leg picks → All (HasGroup feed groups) picks → IsGrouped feed buyer groups leg
grouped_by feed buyer groups leg picks enough all pick is group of_group =
    let lesser = enough.enough pick is in
    All-contains (HasGroup feed groups) picks lesser.0 all lesser.1 group (lesser.2.group ∙ of_group)

-- what holds of so many first items as there are holds of all
pub all_first : {X : Type 0} (P : X → Type 0) (xs : List X) (n : ℕ) → length xs ≤ n → AreFirst P xs n → All P xs
all_first P xs n le first k d lt = first k (get_or xs k d) (omega (arith, lt, le)) (slice_get-get_or xs k d lt)

-- ---- what is known of rides

-- it is so of each of the rides
pub all_known : (feed : FeedRows) (buyer : Buyer) (legs : FareLegs) (rides : List CaughtRide) →
    AreKinds feed legs.known rides legs.kinds.items → AreGroupsOf feed buyer rides legs.groups.items → AreLastChanges feed legs.groups.items legs.changes →
    AreKnown (IsKnown feed buyer legs) rides
all_known feed buyer legs rides kinds groups changes place caught is =
    let within = slice_get_within rides place caught is in
    let many = kinds.many in
    let at = slice_get-get_or legs.kinds.items place 0 (omega (arith, within, many)) in
    record {
      kind = get_or legs.kinds.items place 0;
      at = at;
      of = kinds.fit place caught (get_or legs.kinds.items place 0) is at;
      grouped = groups caught (place, within, get_or_from_slice_get rides place caught caught is);
      changes = changes;
    }
