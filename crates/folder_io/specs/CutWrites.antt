-- Which writes of a sink in memory fail, and what they keep.
use Rattle.std.specs.Prelude.{ℕ, List, [], take, Option, None, Some, Bool, true, false, find, ◌==◌}
use Rattle.folder_io.specs.declared.memory_sink.Cut.{Cut}
use Rattle.folder_io.specs.declared.sink.Wrote.{Wrote}
use Rattle.folder_io.specs.declared.sink.Wrote.TheVariants as wrote
use Rattle.folder_io.specs.MemoryCalls.{next_call}

-- the writes that fail, counted from 1, and how many were made
pub record CutWrites : Type 0 where
  pub cuts : List Cut
  pub writes_made : ℕ

-- the first cut of a write, if one names it
abbrev pub first_cut : List Cut → ℕ → Option Cut
first_cut cuts call = find (λ cut. cut.call == call) cuts

-- the cut of the next write, if one names it
abbrev pub next_cut : CutWrites → Option Cut
next_cut writes = first_cut writes.cuts (next_call writes.writes_made)

-- the same after a write
abbrev pub after_write : CutWrites → CutWrites
after_write writes = record writes { writes_made = next_call writes.writes_made }

-- what a write answers, whether its piece fits or not, and with the cut that names it or none
abbrev pub cut_answer : Bool → Option Cut → Wrote
cut_answer false cut = wrote.Failed
cut_answer true None = wrote.All
cut_answer true (Some cut) = wrote.Failed

-- what it keeps of the piece
abbrev pub kept_bytes : Bool → Option Cut → List ℕ → List ℕ
kept_bytes false cut piece = []
kept_bytes true None piece = piece
kept_bytes true (Some cut) piece = take cut.kept piece
