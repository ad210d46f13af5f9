-- Days on which a run is seen alike by fare rules.
use Rattle.std.specs.Prelude.{◌≡◌, ◌<◌, ◌+◌, ℕ, true, List, length, slice_get, unwrap_or, [], Some, All, Contains, ℤ, pos, ◌+ℤ◌, ◌≤ℤ◌, ◌<ℤ◌}
use Rattle.transit_base.specs.declared.numbers.ServiceId.{ServiceId}
use Rattle.feed_rows.specs.declared.journeys.Call.{Call}
use Rattle.feed_rows.specs.FeedRows.{FeedRows}
use Rattle.feed_rows.specs.ServiceDays.{is_active}
use Rattle.fare_audit.specs.declared.days.AuditDays.{AuditDays}
use Rattle.fare_audit.specs.declared.days.Reach.{Reach}
use Rattle.fare_audit.specs.declared.days.Reach.TheVariants.{OneDay, TwoDays, Longer}

-- the service of each timeframe is active on both days or on neither
abbrev pub HaveSameServices : FeedRows → ℤ → ℤ → Type 0
HaveSameServices feed a b = All (λ row. is_active feed row.service a ≡ is_active feed row.service b) feed.timeframes

-- the same holds of each civil day on which a run of these service days may have a moment
abbrev pub AreAlike : FeedRows → Reach → ℤ → ℤ → Type 0
AreAlike feed OneDay a b = HaveSameServices feed a b
AreAlike feed TwoDays a b = HaveSameServices feed a b × HaveSameServices feed (a +ℤ pos 1) (b +ℤ pos 1)
AreAlike feed Longer a b = a ≡ b

-- so many seconds after the start of a service day lie on these civil days
abbrev pub IsWithin : Reach → ℤ → Type 0
IsWithin OneDay z = (pos 0 ≤ℤ z) × (z <ℤ pos 86_400)
IsWithin TwoDays z = (pos 0 ≤ℤ z) × (z <ℤ pos 172_800)
IsWithin Longer z = Unit {0}

-- both moments of the call lie from the start of the service day to before so many seconds later
abbrev pub EndsBefore : ℤ → ℤ → Call → Type 0
EndsBefore shift end call =
    ((pos 0 ≤ℤ (shift +ℤ pos call.arrival)) × ((shift +ℤ pos call.arrival) <ℤ end)) × ((pos 0 ≤ℤ (shift +ℤ pos call.departure)) × ((shift +ℤ pos call.departure) <ℤ end))

-- all moments of the calls do, where they are so many seconds later than their times say
abbrev pub AreWithin : Reach → ℤ → List Call → Type 0
AreWithin reach shift calls =
    All (λ (c : Call). IsWithin reach (shift +ℤ pos c.arrival) × IsWithin reach (shift +ℤ pos c.departure)) calls

-- beside each day one that has the same services
abbrev pub AreKinds : FeedRows → ℤ → List ℕ → Type 0
AreKinds feed first kinds =
    (n kind : ℕ) → slice_get kinds n ≡ Some kind → HaveSameServices feed (first +ℤ pos n) (first +ℤ pos kind)

-- the days below a count on which the service is active
pub record AreActiveDays (feed : FeedRows) (first : ℤ) (count : ℕ) (service : ServiceId) (days : List ℕ) : Type 0 where
  pub within : All (λ n. (n < count) × (is_active feed service (first +ℤ pos n) ≡ true)) days
  pub has : (n : ℕ) → n < count → is_active feed service (first +ℤ pos n) ≡ true → Contains days n

-- some of the days, such that each is alike to one of them
pub record ArePicked (feed : FeedRows) (first : ℤ) (reach : Reach) (days picked : List ℕ) : Type 0 where
  pub among : (n : ℕ) → Contains picked n → Contains days n
  pub covers : (n : ℕ) → Contains days n → (k : ℕ) × Contains picked k × AreAlike feed reach (first +ℤ pos k) (first +ℤ pos n)

-- days on which the service is active, such that each day on which it is is alike to one of them
pub record AreDaysLike (feed : FeedRows) (first : ℤ) (count : ℕ) (service : ServiceId) (reach : Reach) (days : List ℕ)
    : Type 0 where
  pub within : All (λ n. (n < count) × (is_active feed service (first +ℤ pos n) ≡ true)) days
  pub covers : (n : ℕ) → n < count → is_active feed service (first +ℤ pos n) ≡ true →
      (k : ℕ) × Contains days k × AreAlike feed reach (first +ℤ pos k) (first +ℤ pos n)

-- the days of a service
abbrev pub days_at : List (List ℕ) → ℕ → List ℕ
days_at groups service = unwrap_or (slice_get groups service) []

-- the same for the services with numbers below a bound
abbrev pub AreDaysBelow : FeedRows → ℤ → ℕ → Reach → ℕ → List (List ℕ) → Type 0
AreDaysBelow feed first count reach most groups =
    (service : ℕ) → service < most → AreDaysLike feed first count (record { 0 = service }) reach (days_at groups service)

-- the days of each service
pub record AreDaysOf (feed : FeedRows) (first : ℤ) (count : ℕ) (days : AuditDays) : Type 0 where
  pub one_day : AreDaysBelow feed first count OneDay (length feed.service_names) days.one_day
  pub two_days : AreDaysBelow feed first count TwoDays (length feed.service_names) days.two_days
  pub all : AreDaysBelow feed first count Longer (length feed.service_names) days.all
