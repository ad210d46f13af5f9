-- What a feed without a fault says of single rows.
use Rattle.std.proofs.Common.{◌≡◌, ℕ, ◌<◌, ◌≤◌, List, length, refl, sym, arith, ⊎_elim, Option, Some, None, IsSome}
use Rattle.std.specs.Prelude.{slice_get}
use Rattle.std.specs.Option.{ForSome}
use Rattle.transit_base.specs.declared.numbers.StopId.{StopId}
use Rattle.feed_rows.specs.declared.rows.StopRow.{StopRow}
use Rattle.feed_rows.specs.declared.rows.TripRow.{TripRow}
use Rattle.feed_rows.specs.declared.rows.StopTimeRow.{StopTimeRow}
use Rattle.feed_rows.specs.declared.rows.ServiceRow.{ServiceRow}
use Rattle.feed_rows.specs.declared.rows.ExceptionRow.{ExceptionRow}
use Rattle.feed_rows.specs.declared.rows.AreaRow.{AreaRow}
use Rattle.feed_rows.specs.declared.rows.RiderRow.{RiderRow}
use Rattle.feed_rows.specs.declared.rows.MediumRow.{MediumRow}
use Rattle.feed_rows.specs.declared.rows.ProductRow.{ProductRow}
use Rattle.feed_rows.specs.FeedRows.{FeedRows}
use Rattle.feed_rows.specs.Calls.{last_time}
use Rattle.plain_laws.specs.Plain.{ForItem}
use Rattle.feed_rows.specs.SoundNames.{IsNameList}
use Rattle.feed_rows.specs.SoundTimetable.{AreSoundStops, AreSoundTrips, AreOrderedCalls, AreSoundServices, AreSoundExceptions, IsLastCall}
use Rattle.feed_rows.specs.SoundFares.{AreSoundAreas, AreSoundRiders, AreSoundMedia, AreSoundProducts, IsSoundCurrency}
use Rattle.plain_laws.proofs.Laws.{All-slice_get, ForItem-slice_get, same-place, same-key, same-keys}

-- two stops with one id are one stop
pub same_stop : (feed : FeedRows) (i j : ℕ) (s t : StopRow) → AreSoundStops feed → slice_get feed.stops i ≡ Some s → slice_get feed.stops j ≡ Some t → s.id ≡ t.id → i ≡ j
same_stop feed i j s t sound = same-key (λ r. r.id) feed.stops i j s t sound.no_doubles

-- two trips with one id are one trip
pub same_trip : (feed : FeedRows) (i j : ℕ) (t u : TripRow) → AreSoundTrips feed → slice_get feed.trips i ≡ Some t → slice_get feed.trips j ≡ Some u → t.id ≡ u.id → i ≡ j
same_trip feed i j t u sound = same-key (λ r. r.id) feed.trips i j t u sound.no_doubles

-- two areas with one id are one area
pub same_area : (feed : FeedRows) (i j : ℕ) (a b : AreaRow) → AreSoundAreas feed → slice_get feed.areas i ≡ Some a → slice_get feed.areas j ≡ Some b → a.id ≡ b.id → i ≡ j
same_area feed i j a b sound = same-key (λ r. r.id) feed.areas i j a b sound.no_doubles

-- two rider categories with one id are one category
pub same_rider : (feed : FeedRows) (i j : ℕ) (r s : RiderRow) → AreSoundRiders feed → slice_get feed.riders i ≡ Some r → slice_get feed.riders j ≡ Some s → r.id ≡ s.id → i ≡ j
same_rider feed i j r s sound = same-key (λ r. r.id) feed.riders i j r s sound.no_doubles

-- two fare media with one id are one medium
pub same_medium : (feed : FeedRows) (i j : ℕ) (m n : MediumRow) → AreSoundMedia feed → slice_get feed.media i ≡ Some m → slice_get feed.media j ≡ Some n → m.id ≡ n.id → i ≡ j
same_medium feed i j m n sound = same-key (λ r. r.id) feed.media i j m n sound.no_doubles

-- a name has one number
pub same_name : (names : List (List ℕ)) (i j : ℕ) (name : List ℕ) → IsNameList names → slice_get names i ≡ Some name → slice_get names j ≡ Some name → i ≡ j
same_name names i j name sound gi gj = same-key (λ n. n) names i j name name sound.no_doubles gi gj refl

-- two calendar rows of one service are one row
pub same_service : (feed : FeedRows) (i j : ℕ) (s t : ServiceRow) → AreSoundServices feed → slice_get feed.services i ≡ Some s → slice_get feed.services j ≡ Some t → s.service.0 ≡ t.service.0 → i ≡ j
same_service feed i j s t sound = same-key (λ r. r.service.0) feed.services i j s t sound.no_doubles

-- two exceptions of one service on one day are one row
pub same_exception : (feed : FeedRows) (i j : ℕ) (e f : ExceptionRow) → AreSoundExceptions feed → slice_get feed.exceptions i ≡ Some e → slice_get feed.exceptions j ≡ Some f → e.service.0 ≡ f.service.0 → e.day.0 ≡ f.day.0 → i ≡ j
same_exception feed i j e f sound = same-keys (λ r. r.service.0) (λ r. r.day.0) feed.exceptions i j e f sound.no_doubles

-- two stop times of one trip with one sequence are one row
pub same_call : (feed : FeedRows) (i j : ℕ) (c d : StopTimeRow) → AreOrderedCalls feed → slice_get feed.stop_times i ≡ Some c → slice_get feed.stop_times j ≡ Some d → c.trip.0 ≡ d.trip.0 → c.sequence ≡ d.sequence → i ≡ j
same_call feed i j c d sound = same-keys (λ r. r.trip.0) (λ r. r.sequence) feed.stop_times i j c d sound.no_doubles

-- two rows of one product for one rider category and one medium are one row
pub same_product : (feed : FeedRows) (i j : ℕ) (p q : ProductRow) → AreSoundProducts feed → slice_get feed.products i ≡ Some p → slice_get feed.products j ≡ Some q → p.product.0 ≡ q.product.0 → p.rider ≡ q.rider → p.medium ≡ q.medium → i ≡ j
same_product feed i j p q sound gi gj product rider medium =
    same-place
    (λ a b. (a.product.0 ≡ b.product.0) × (a.rider ≡ b.rider) × (a.medium ≡ b.medium))
    feed.products
    i
    j
    p
    q
    (λ a b d lt within all. sound.no_doubles a b d lt within all.0 all.1 all.2)
    (λ all. (sym all.0, sym all.1, sym all.2))
    gi
    gj
    (product, rider, medium)

-- the parent of a stop is a station
pub parent_kind : (feed : FeedRows) (i : ℕ) (s t : StopRow) (parent : StopId) → AreSoundStops feed → slice_get feed.stops i ≡ Some s → s.parent ≡ Some parent → slice_get feed.stops parent.0 ≡ Some t → t.kind ≡ 1
parent_kind feed i s t parent sound got named found =
    ForItem-slice_get (λ r. r.kind ≡ 1) feed.stops parent.0 t found (All-slice_get (λ r. ForSome r.parent (λ p. ForItem feed.stops p.0 (λ q. q.kind ≡ 1))) feed.stops i s got sound.stations parent named)

-- a stop that is no platform has no parent
pub no_parent : (feed : FeedRows) (i : ℕ) (s : StopRow) → AreSoundStops feed → slice_get feed.stops i ≡ Some s → 1 ≤ s.kind → s.parent ≡ None
no_parent feed i s sound got kind = step s.parent (All-slice_get (λ r. ForSome r.parent (λ p. r.kind ≡ 0)) feed.stops i s got sound.platforms)
  where
    step : (parent : Option StopId) → ForSome parent (λ p. s.kind ≡ 0) → parent ≡ None
    step None _ = refl
    step (Some p) platform = let flat : s.kind ≡ 0 = platform p refl in absurd (omega arith)

-- the last row of a trip has a time
pub last_timed : (feed : FeedRows) (i : ℕ) (c : StopTimeRow) → AreOrderedCalls feed → slice_get feed.stop_times i ≡ Some c → IsLastCall feed c → IsSome (last_time c)
last_timed feed i c sound got = All-slice_get (λ r. IsLastCall feed r → IsSome (last_time r)) feed.stop_times i c got sound.lasts

-- a feed with a product has a currency
pub currency_known : (feed : FeedRows) (i : ℕ) → IsSoundCurrency feed → i < length feed.products → IsSome feed.currency
currency_known feed i sound within = sound.known.1 (omega arith)
