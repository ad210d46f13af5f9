-- Trips whose rows stand together in the file: where those of each stand.
use Rattle.std.specs.Prelude.{◌≡◌, ℕ, ◌+◌, ◌-◌, ◌<◌, ◌≤◌, ◌==◌, List, length, slice_index_or, slice_range, slice_set, take, filter}
use Rattle.feed_rows.specs.declared.journeys.Call.{Call}
use Rattle.feed_rows.specs.declared.rows.StopTimeRow.{StopTimeRow}
use Rattle.feed_rows.specs.CallPass.{pass}
use Rattle.plain_laws.specs.Plain.{list_below}
use Rattle.feed_trips.specs.declared.together.Stretch.{Stretch}

-- no rows
abbrev pub no_stretch : Stretch
no_stretch = record { from = 0; to = 0 }

-- the rows of a stretch
abbrev pub rows_of_stretch : List StopTimeRow → Stretch → List StopTimeRow
rows_of_stretch rows s = slice_range rows s.from s.to

abbrev pub rows_at : List StopTimeRow → List Stretch → ℕ → List StopTimeRow
rows_at rows stretches trip = rows_of_stretch rows (slice_index_or stretches trip no_stretch)

-- the times that are kept beside them
abbrev pub times_at : List ℕ → List Stretch → ℕ → List ℕ
times_at times stretches trip =
    let s = slice_index_or stretches trip no_stretch in slice_range times s.from s.to

-- the calls of the rows at each stretch
abbrev pub stretch_calls : List StopTimeRow → List Stretch → List (List Call)
stretch_calls rows stretches = list_below (length stretches) (λ t. pass (rows_at rows stretches t))

-- of the first n rows those of the trip are those of the stretch, and their sequences don't fall
pub record IsStretch (rows : List StopTimeRow) (n trip : ℕ) (s : Stretch) : Type 0 where
  pub forward : s.from ≤ s.to
  pub ends : s.to ≤ n
  pub are : rows_of_stretch rows s ≡ filter (λ r. r.trip.0 == trip) (take n rows)
  pub has : (k : ℕ) (d : StopTimeRow) → k < n → (slice_index_or rows k d).trip.0 ≡ trip → (s.from ≤ k) × (k < s.to)
  pub rise : (k : ℕ) (d : StopTimeRow) → s.from ≤ k → k + 1 < s.to → (slice_index_or rows k d).sequence ≤ (slice_index_or rows (k + 1) d).sequence

-- the same of the trips with the numbers below trips, each with its stretch
pub record AreStretches (rows : List StopTimeRow) (n trips : ℕ) (stretches : List Stretch) : Type 0 where
  pub count : length stretches ≡ trips
  pub each : (t : ℕ) → t < trips → IsStretch rows n t (slice_index_or stretches t no_stretch)

-- the row at a place is of the trip of the row before it, and its sequence isn't less
pub record GoesOn (rows : List StopTimeRow) (place : ℕ) : Type 0 where
  pub own : (d : StopTimeRow) → (slice_index_or rows place d).trip.0 ≡ (slice_index_or rows (place - 1) d).trip.0
  pub rise : (d : StopTimeRow) → (slice_index_or rows (place - 1) d).sequence ≤ (slice_index_or rows place d).sequence

-- where it is of that trip, its sequence is less
abbrev pub IsAnew : List StopTimeRow → ℕ → Type 0
IsAnew rows place =
    (d : StopTimeRow) → (slice_index_or rows place d).trip.0 ≡ (slice_index_or rows (place - 1) d).trip.0
    → (slice_index_or rows place d).sequence < (slice_index_or rows (place - 1) d).sequence

-- there are rows from a place and up to another; each of them but the first goes on with the one before it, and the
-- first doesn't, where there is one before it
pub record IsPiece (rows : List StopTimeRow) (from to : ℕ) : Type 0 where
  pub some : from < to
  pub ends : to ≤ length rows
  pub anew : 0 < from → IsAnew rows from
  pub goes_on : (k : ℕ) → from < k → k < to → GoesOn rows k

-- the rows from a place and up to another were put as the stretch of the trip of the first of them
abbrev pub IsPutAt : List StopTimeRow → ℕ → ℕ → List Stretch → List Stretch → Type 0
IsPutAt rows from to old new =
    (d : StopTimeRow) → new ≡ slice_set old (slice_index_or rows from d).trip.0 (record { from = from; to = to })

-- this is the stretch that the trip of the row at a place has
abbrev pub IsStretchBefore : List StopTimeRow → ℕ → List Stretch → Stretch → Type 0
IsStretchBefore rows place stretches s =
    (d : StopTimeRow) → slice_index_or stretches (slice_index_or rows place d).trip.0 no_stretch ≡ s

-- the trip of the row at a place has a stretch before it that the row doesn't lengthen: where the stretch ends just before
-- the place, the row's sequence is below that of the row before
pub record IsApart (rows : List StopTimeRow) (place : ℕ) (stretches : List Stretch) : Type 0 where
  pub begun : (d : StopTimeRow) → (slice_index_or stretches (slice_index_or rows place d).trip.0 no_stretch).from < (slice_index_or stretches (slice_index_or rows place d).trip.0 no_stretch).to
  pub apart : (d : StopTimeRow) → (slice_index_or stretches (slice_index_or rows place d).trip.0 no_stretch).to ≡ place → (slice_index_or rows place d).sequence < (slice_index_or rows (place - 1) d).sequence

-- somewhere a row doesn't lengthen the stretch of its trip
pub record IsScattered (rows : List StopTimeRow) (trips : ℕ) : Type 0 where
  pub place : ℕ
  pub inside : place < length rows
  pub stretches : List Stretch
  pub before : AreStretches rows place trips stretches
  pub apart : IsApart rows place stretches
