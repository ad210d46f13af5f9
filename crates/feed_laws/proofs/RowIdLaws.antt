-- The rows that ids name.
use Rattle.std.proofs.Common.{◌≡◌, refl, ap, ℕ, ◌<◌, List, length}
use Rattle.std.specs.Prelude.{Option, Some, None, option_map}
use Rattle.std.proofs.lemmas.Option.{same_Some, none-some}
use Rattle.transit_base.specs.declared.numbers.TripId.{TripId}
use Rattle.plain_laws.specs.Plain.{find_below}
use Rattle.feed_rows.specs.FeedRows.{FeedRows}
use Rattle.feed_rows.specs.RowsById.{find_trip, has_trip_id}
use Rattle.plain_laws.proofs.Laws.{find_below_tells}

-- a trip that is found is one of the feed
pub trip_within : (feed : FeedRows) (id : List ℕ) (trip : TripId) → find_trip feed id ≡ Some trip →
    trip.0 < length feed.trips
trip_within feed id trip is = by (find_below (length feed.trips) (has_trip_id feed id)) refl is
  where
    by : (o : Option ℕ) → find_below (length feed.trips) (has_trip_id feed id) ≡ o →
        option_map (λ i. record { 0 = i }) o ≡ Some trip → trip.0 < length feed.trips
    by None found e = absurd (none-some trip e)
    by (Some i) found e =
        let first = find_below_tells (has_trip_id feed id) (length feed.trips) i found in
        let same : record { 0 = i } ≡ trip = same_Some (record { 0 = i }) trip e in
        let number : i ≡ trip.0 = ap (λ (t : TripId). t.0) same in
        rw (← number) first.within
