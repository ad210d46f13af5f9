use Rattle.std.proofs.Common.{◌≡◌, ◌∷◌, ◌≤◌, ◌-◌, [], List, ℕ, Option, length, true}
use Rattle.feed_rows.specs.Limits.{most_rows}
use Rattle.feed_text.specs.Reader.{StandsBehind, is_going}
use Rattle.feed_calls.specs.CallRows.{HasCalls}
use Rattle.feed_calls.proofs.calls.read_stop_times.Given as goal

abbrev pub invariant-loop-calls : goal.invariant-loop-calls
invariant-loop-calls g l = record {
  few : l.row ≤ most_rows;
  going : is_going l.records ≡ true;
  read : (start : Option (List ℕ)) → StandsBehind g.R.Read.remaining start [] l.fn.records
      → (head : List (List ℕ)) × (rows : List (List (List ℕ))) × StandsBehind g.R.Read.remaining start (head ∷ rows) l.records × (l.row ≡ length rows) × HasCalls l.ids head rows l.calls;
}

abbrev pub decreases-loop-calls : goal.decreases-loop-calls
decreases-loop-calls g l = most_rows - l.row
