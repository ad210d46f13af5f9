use Rattle.std.proofs.Common.{◌≡◌, ℕ, length, take, ◌&&◌}
use Rattle.std.specs.Prelude.{nat_lt}
use Rattle.std.specs.List.{list_any}
use Rattle.number_marks.specs.Marks.{is_marked, is_number}
use Rattle.number_marks.proofs.marks.marked.Given as goal

abbrev pub invariant-loop-row : goal.invariant-loop-row
invariant-loop-row g l = record {
  many : length l.marks.items ≡ l.count;
  marks : (i : ℕ) → is_marked l.marks.items i
      ≡ (nat_lt i l.count
      && list_any (λ row. is_number i (g.C.NumberColumn.number l.column row)) (take l.row-index l.rows));
}
