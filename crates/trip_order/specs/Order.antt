-- The order of stop times: by trip, within a trip by sequence, and within a sequence by row.
use Rattle.std.specs.Prelude.{◌≡◌, ℕ, ◌+◌, ◌<◌, ◌≤◌, false, List, length, get_or, None, ◌⊎◌}
use Rattle.std.specs.List.Sorted.{IsPermutation}
use Rattle.plain_laws.specs.Plain.{list_below}
use Rattle.feed_rows.specs.declared.rows.StopTimeRow.{StopTimeRow}
use Rattle.trip_order.specs.declared.keys.PlaceKey.{PlaceKey}

-- past the last row
abbrev pub no_time : StopTimeRow
no_time =
    record {
      trip = record { 0 = 0 };
      stop = record { 0 = 0 };
      sequence = 0;
      arrival = None;
      departure = None;
      pickup = false;
      drop_off = false;
    }

-- the row of this number
abbrev pub numbered_at : List StopTimeRow → ℕ → StopTimeRow
numbered_at times row = get_or times row no_time

-- the key of a row
abbrev pub key_of : List StopTimeRow → ℕ → PlaceKey
key_of times row = record { trip = (numbered_at times row).trip.0; sequence = (numbered_at times row).sequence; row = row }

abbrev pub no_key : PlaceKey
no_key = record { trip = 0; sequence = 0; row = 0 }

-- the key at a place
abbrev pub key_at : List PlaceKey → ℕ → PlaceKey
key_at keys place = get_or keys place no_key

-- key b doesn't come before key a
abbrev pub Follows : PlaceKey → PlaceKey → Type 0
Follows a b = (a.trip < b.trip) ⊎ ((a.trip ≡ b.trip) × ((a.sequence < b.sequence) ⊎ ((a.sequence ≡ b.sequence) × (a.row ≤ b.row))))

-- no key comes before the one before it
abbrev pub DoAscend : List PlaceKey → Type 0
DoAscend keys = (k : ℕ) → k + 1 < length keys → Follows (key_at keys k) (key_at keys (k + 1))

-- key a comes before key b
abbrev pub Precedes : PlaceKey → PlaceKey → Type 0
Precedes a b = (a.trip < b.trip) ⊎ ((a.trip ≡ b.trip) × ((a.sequence < b.sequence) ⊎ ((a.sequence ≡ b.sequence) × (a.row < b.row))))

-- the key is that of a row of the file
abbrev pub IsKey : List StopTimeRow → PlaceKey → Type 0
IsKey times key = (key ≡ key_of times key.row) × (key.row < length times)

-- the keys of all rows, ascending: each row has one place
pub record AreSorted (times : List StopTimeRow) (keys : List PlaceKey) : Type 0 where
  pub permuted : IsPermutation (list_below (length times) (key_of times)) keys
  pub many : length keys ≡ length times
  pub own : (place : ℕ) → place < length keys → IsKey times (key_at keys place)
  pub placed : (row : ℕ) → row < length times → (place : ℕ) × (place < length keys) × ((key_at keys place).row ≡ row)
  pub apart : (i j : ℕ) → i < j → j < length keys → (key_at keys i).row ≡ (key_at keys j).row → ⊥
  pub in_order : (i j : ℕ) → i < j → j < length keys → Precedes (key_at keys i) (key_at keys j)

-- the row of a place is one of the file
pub row_within : (times : List StopTimeRow) (keys : List PlaceKey) (place : ℕ) → AreSorted times keys → place < length keys → (key_at keys place).row < length times
row_within times keys place are lt = (are.own place lt).1

-- there are as many places as rows
pub length_sorted : (times : List StopTimeRow) (keys : List PlaceKey) → AreSorted times keys → length keys ≡ length times
length_sorted times keys are = are.many
