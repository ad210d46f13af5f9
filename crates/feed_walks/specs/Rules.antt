-- The rows of transfers.txt, to be looked up by their two stops.
use Rattle.std.specs.Prelude.{◌≡◌, ℕ, ◌<◌, ◌≤◌, ◌==◌, ◌&&◌, List, [], Option, Some, length, slice_get, unwrap_or, find}
use Rattle.std.specs.List.{AllWithin}
use Rattle.std.specs.List.Sorted.{IsNonDecreasingBy}
use Rattle.feed_rows.specs.declared.rows.LinkRow.{LinkRow}
use Rattle.transit_base.specs.declared.numbers.StopId.{StopId}
use Rattle.feed_rows.specs.FeedRows.{FeedRows}
use Rattle.feed_rows.specs.StopLinks.{is_platform, parent_of, row_between}
use Rattle.item_groups.specs.declared.groups.Grouped.{Grouped}
use Rattle.feed_walks.specs.declared.rules.Start.{Start}

-- the group with this number; empty where there is none
abbrev pub group_at : {X : Type 0} → List (List X) → ℕ → List X
group_at groups i = unwrap_or (slice_get groups i) []

-- the first items are those of lesser numbers
pub record IsPlace {X : Type 0} (number : X → ℕ) (xs : List X) (n place : ℕ) : Type 0 where
  pub within : place ≤ length xs
  pub before : AllWithin (λ x. number x < n) xs 0 place
  pub after : AllWithin (λ x. n ≤ number x) xs place (length xs)

-- a row with the stop that it leads from
abbrev pub by_start : LinkRow → Grouped LinkRow
by_start row = record { group = row.from.0; item = row }

-- and with the one that it leads to
abbrev pub by_end : LinkRow → Grouped LinkRow
by_end row = record { group = row.to.0; item = row }

-- the rows from each stop stand by the stops that they lead to, and the first of those to one stop is the earliest row
pub record AreRules (links : List LinkRow) (rules : List (List LinkRow)) : Type 0 where
  pub rises : (i : ℕ) → IsNonDecreasingBy (λ (row : LinkRow). row.to.0) (group_at rules i)
  pub first : (i j : ℕ) → find (λ row. row.to.0 == j) (group_at rules i) ≡ find (λ row. (row.from.0 == i) && (row.to.0 == j)) links

-- these are the rows from a stop, by the stops that they lead to
pub record AreRowsFrom (feed : FeedRows) (from : Option StopId) (rows : List LinkRow) : Type 0 where
  pub rises : IsNonDecreasingBy (λ (row : LinkRow). row.to.0) rows
  pub first : (to : StopId) → find (λ row. row.to.0 == to.0) rows ≡ row_between feed from (Some to)

-- what walks out of a stop go by
pub record IsStart (feed : FeedRows) (start : Start) : Type 0 where
  pub platform : start.is_platform ≡ is_platform feed start.stop
  pub station : start.station ≡ parent_of feed start.stop
  pub own : AreRowsFrom feed (Some start.stop) start.own.now
  pub shared : AreRowsFrom feed start.station start.shared.now
