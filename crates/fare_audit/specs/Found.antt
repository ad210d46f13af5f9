-- What an audit has found so far, and which rides that covers.
use Rattle.std.specs.Prelude.{◌≡◌, ◌<◌, ◌⊎◌, ℕ, Bool, true, false, List, length, Option, Some, slice_get, Contains, ℤ, pos, ◌+ℤ◌}
use Rattle.std.specs.List.{list_any}
use Rattle.transit_base.specs.declared.numbers.NetworkId.{NetworkId}
use Rattle.feed_rows.specs.declared.journeys.Buyer.{Buyer}
use Rattle.transit_base.specs.declared.numbers.RuleId.{RuleId}
use Rattle.feed_rows.specs.declared.journeys.Pair.{Pair}
use Rattle.feed_rows.specs.declared.journeys.Ride.{Ride}
use Rattle.feed_rows.specs.declared.journeys.RideFacts.{RideFacts}
use Rattle.feed_rows.specs.FareChoices.{is_open}
use Rattle.feed_rows.specs.FareGaps.{has_option}
use Rattle.feed_rows.specs.FeedRows.{FeedRows}
use Rattle.feed_rows.specs.LegRules.{is_selected_rule}
use Rattle.feed_rows.specs.Legs.{leg_facts}
use Rattle.feed_rows.specs.Rides.{ride_facts}
use Rattle.plain_laws.specs.Plain.{at_and}
use Rattle.fare_timeframes.specs.Cuts.{AreLike}
use Rattle.ride_cache.specs.Kept.{Holds, HoldsFor}
use Rattle.fare_audit.specs.declared.ends.End.{End}
use Rattle.fare_audit.specs.declared.found.Found.{Found}
use Rattle.fare_audit.specs.declared.found.Walk.{Walk}

-- a feed, a buyer, the first of the service days that are looked at, and how many there are
pub record AuditOf : Type 0 where
  pub feed : FeedRows
  pub buyer : Buyer
  pub first : ℤ
  pub count : ℕ

-- the facts are those of a ride of these days
pub record IsAudited (audit : AuditOf) (facts : RideFacts) : Type 0 where
  pub ride : Ride
  pub number : ℕ
  pub within : number < audit.count
  pub day : ride.day.0 ≡ audit.first +ℤ pos number
  pub is : ride_facts audit.feed ride ≡ Some facts

-- some ride of these days is seen as this one
abbrev pub HasLike : AuditOf → RideFacts → Type 0
HasLike audit ride = (facts : RideFacts) × IsAudited audit facts × AreLike audit.feed ride facts

-- the ride with these facts goes from the one end to the other
pub record StandsFor (audit : AuditOf) (network : Option NetworkId) (from to : End) (facts : RideFacts) : Type 0 where
  pub audited : IsAudited audit facts
  pub from_stop : from.stop ≡ facts.from
  pub to_stop : to.stop ≡ facts.to
  pub like : AreLike audit.feed (record { from = from.like; to = to.like; network = network; departure = from.departure; arrival = to.arrival }) facts

-- there is such a ride
abbrev pub HasRide : AuditOf → Option NetworkId → End → End → Type 0
HasRide audit network from to = (facts : RideFacts) × StandsFor audit network from to facts

-- the rule is marked
abbrev pub is_marked : List Bool → ℕ → Bool
is_marked marks i = at_and marks i (λ marked. marked)

-- the leg of the ride selects the rule
abbrev pub selects : FeedRows → RideFacts → ℕ → Bool
selects feed ride i = at_and feed.leg_rules i (is_selected_rule feed (leg_facts feed ride))

-- the rules are marked besides what was
pub record MarksAll (rules : List RuleId) (old new : List Bool) : Type 0 where
  pub many : length new ≡ length old
  pub kept : (i : ℕ) → is_marked old i ≡ true → is_marked new i ≡ true
  pub marks : (rule : RuleId) → Contains rules rule → rule.0 < length old → is_marked new rule.0 ≡ true
  pub tells : (i : ℕ) → is_marked new i ≡ true → (is_marked old i ≡ true) ⊎ Contains rules (record { 0 = i })

-- a row of the rule's product is open to the buyer
abbrev pub opens_rule : AuditOf → RuleId → Bool
opens_rule audit rule =
    at_and audit.feed.leg_rules rule.0 (λ row. list_any (is_open row.product audit.buyer) audit.feed.products)

-- the verdict on the ride is right, and the rules that the ride selects are marked
pub record IsRight (audit : AuditOf) (used : List Bool) (ride : RideFacts) (has : Bool) : Type 0 where
  pub value : has ≡ has_option audit.feed audit.buyer (leg_facts audit.feed ride)
  pub marks : (i : ℕ) → selects audit.feed ride i ≡ true → is_marked used i ≡ true

-- a ride between the stops has no option
pub record IsGap (audit : AuditOf) (pair : Pair) : Type 0 where
  pub facts : RideFacts
  pub audited : IsAudited audit facts
  pub from : facts.from ≡ pair.from
  pub to : facts.to ≡ pair.to
  pub unpaid : has_option audit.feed audit.buyer (leg_facts audit.feed facts) ≡ false

-- a ride selects the rule
pub record IsUsed (audit : AuditOf) (rule : ℕ) : Type 0 where
  pub facts : RideFacts
  pub audited : IsAudited audit facts
  pub selected : selects audit.feed facts rule ≡ true

-- each pair that is noted stands among the gaps
abbrev pub AreNoted : Found → Type 0
AreNoted found = (pair : Pair) → Holds found.noted pair → Contains found.gaps.items pair

-- what follows from the ride with these facts is found
pub record IsCovered (audit : AuditOf) (found : Found) (facts : RideFacts) : Type 0 where
  pub unpaid : has_option audit.feed audit.buyer (leg_facts audit.feed facts) ≡ false →
      Contains found.gaps.items (record { from = facts.from; to = facts.to })
  pub rules : (i : ℕ) → selects audit.feed facts i ≡ true → is_marked found.used.items i ≡ true

-- what stands between the two ends, where riders may board at the one and alight at the other, is covered
abbrev pub CoversPair : AuditOf → Found → Option NetworkId → List End → ℕ → ℕ → Type 0
CoversPair audit found network ends from to =
    (e f : End) → slice_get ends from ≡ Some e → slice_get ends to ≡ Some f → e.pickup ≡ true → f.drop_off ≡ true →
    (facts : RideFacts) → StandsFor audit network e f facts → IsCovered audit found facts

-- and so is what stands between any two
abbrev pub CoversEnds : AuditOf → Found → Option NetworkId → List End → Type 0
CoversEnds audit found network ends = (from to : ℕ) → from < to → CoversPair audit found network ends from to

-- the run has this network and these ends
abbrev pub IsWalk : Walk → Option NetworkId → List End → Type 0
IsWalk walk network ends = (walk.network ≡ network) × (walk.ends.items ≡ ends)

-- such a run was looked at, and is kept
abbrev pub HasWalk : Found → Option NetworkId → List End → Type 0
HasWalk found network ends = (walk : Walk) × Contains found.walks.items walk × IsWalk walk network ends

-- what was found is true
pub record IsFound (audit : AuditOf) (found : Found) : Type 0 where
  pub many : length found.used.items ≡ length audit.feed.leg_rules
  pub used : (i : ℕ) → is_marked found.used.items i ≡ true → IsUsed audit i
  pub gaps : (pair : Pair) → Contains found.gaps.items pair → IsGap audit pair
  pub noted : AreNoted found
  pub verdicts : (ride : RideFacts) (has : Bool) → HoldsFor found.verdicts ride has → IsRight audit found.used.items ride has
  pub walked : (walk : Walk) → Contains found.walks.items walk → CoversEnds audit found walk.network walk.ends.items

-- nothing that was found is lost
pub record GrowsTo (old new : Found) : Type 0 where
  pub used : (i : ℕ) → is_marked old.used.items i ≡ true → is_marked new.used.items i ≡ true
  pub gaps : (pair : Pair) → Contains old.gaps.items pair → Contains new.gaps.items pair
