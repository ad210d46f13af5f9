use Rattle.std.proofs.Common.{◌≡◌, ◌≤◌, ◌+◌, length}
use Rattle.feed_faults.specs.AcceptedFeed.{with_names}
use Rattle.feed_build.specs.NameNumbers.{IsNumbering, names_in}
use Rattle.feed_build.proofs.names.Numbering.add_column.Given as goal

abbrev pub invariant-loop-row : goal.invariant-loop-row
invariant-loop-row l =
    record {
      names : names_in l.self-inside.names ≡ with_names l.fn.self l.table l.column l.row;
      numbering : IsNumbering (names_in l.self-inside.names);
      grows : length (names_in l.self-inside.names) ≤ length l.fn.self + l.row;
    }
