-- The rides that words name, as contracts see them.
use Rattle.feed_rows.specs.Limits.{most_rides}
use Rattle.std.specs.Prelude.{◌≡◌, ℕ, ◌≤ℤ◌, ◌≤◌, List, [], length, map, unwrap_or, IfSome, pos, negsuc}
use Rattle.std.specs.Borrow.{Bor}
use Rattle.transit_base.specs.Limits.{most_time}
use Rattle.plain_laws.specs.Plain.{collect_below}
use Rattle.commands.specs.NumberedItems.{read_at}
use Rattle.feed_rows.specs.RideWords.{ride_word}
use Rattle.feed_rows.specs.RideWords.{RideWord as NamedRide, RideParts as NamedParts}
use Rattle.plan_words.specs.declared.rides.RideWord.{RideWord}
use Rattle.plan_words.specs.declared.rides.RideWords.{RideWords}
use Rattle.plan_words.specs.declared.rides.RideParts.{RideParts}

-- the ride
abbrev pub ride_of : RideWord → NamedRide
ride_of ride = record { trip = ride.trip.now; day = ride.day.0; start = ride.start; from = ride.from; to = ride.to }

-- the parts of its word
abbrev pub parts_of : RideParts → NamedParts
parts_of parts =
    record { trip = parts.trip.now; date = parts.date.now; start = parts.start.now; from = parts.from.now; to = parts.to.now }

-- the rides that words name, in order, where each can be read
abbrev pub rides_named : List (List ℕ) → List NamedRide
rides_named texts = unwrap_or (collect_below (length texts) (read_at ride_word texts)) []

-- the texts behind references
abbrev pub texts_of : List (Bor (List ℕ)) → List (List ℕ)
texts_of = map (λ text. text.now)

-- the rides, in order
abbrev pub rides_of : RideWords → List NamedRide
rides_of rides = rides_named (texts_of rides.texts.items)

-- a ride on a day from 1900-01-01 to 2999-12-31, whose start and places are in the bounds of their columns
pub record IsUsualRide (ride : RideWord) : Type 0 where
  pub early : negsuc 25_566 ≤ℤ ride.day.0
  pub late : ride.day.0 ≤ℤ pos 376_199
  pub start : IfSome ride.start (λ s. s ≤ most_time)
  pub from : ride.from ≤ 2_147_483_647
  pub to : ride.to ≤ 2_147_483_647

-- one to eight rides
pub record AreUsualRides (rides : RideWords) : Type 0 where
  pub counted : length rides.texts.items ≡ length (rides_of rides)
  pub some : 1 ≤ length (rides_of rides)
  pub few : length (rides_of rides) ≤ most_rides
