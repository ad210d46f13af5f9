use Rattle.std.proofs.Common.{◌≡◌, ◌≤◌, ◌*◌, length}
use Rattle.feed_rows.specs.Limits.{most_rows}
use Rattle.feed_build.proofs.NameColumns.{names_before}
use Rattle.feed_build.proofs.names.Numbering.add.Given as goal

abbrev pub invariant-loop-file : goal.invariant-loop-file
invariant-loop-file g l =
    record {
      names : l.self ≡ names_before l.tables l.column l.file-index;
      few : length l.self ≤ l.file-index * most_rows;
    }
