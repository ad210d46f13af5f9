-- Which calls of an object in memory fail, and what the others answer.
use Rattle.std.specs.Prelude.{ℕ, ◌+◌, ◌-◌, ◌^◌, min, List, Option, None, Some, Bool, true, false, ◌==◌}
use Rattle.std.specs.List.{list_any}
use Rattle.folder_io.specs.declared.folder.Opened.{Opened}
use Rattle.folder_io.specs.declared.folder.Opened.TheVariants as opened

-- the number of the next call behind so many; a number past the last of a u64 is that last one
abbrev pub next_call : ℕ → ℕ
next_call made = min (made + 1) (2 ^ 64 - 1)

-- which calls of a folder fail, by their numbers, counted from 1 per kind of call, and how many were made
pub record FailingCalls : Type 0 where
  pub failing_opens : List ℕ
  pub failing_reads : List ℕ
  pub opens_made : ℕ
  pub reads_made : ℕ

-- whether a list of numbers names a call
abbrev pub is_named : List ℕ → ℕ → Bool
is_named numbers call = list_any (λ number. number == call) numbers

-- whether the next open fails
abbrev pub open_fails : FailingCalls → Bool
open_fails calls = is_named calls.failing_opens (next_call calls.opens_made)

-- whether the next read fails
abbrev pub read_fails : FailingCalls → Bool
read_fails calls = is_named calls.failing_reads (next_call calls.reads_made)

-- the same after an open
abbrev pub after_open : FailingCalls → FailingCalls
after_open calls = record calls { opens_made = next_call calls.opens_made }

-- the same after a read
abbrev pub after_read : FailingCalls → FailingCalls
after_read calls = record calls { reads_made = next_call calls.reads_made }

-- what an open answers of what is held under its name, where it fails and where it doesn't
abbrev pub opened_of : Bool → Option (List ℕ) → Opened
opened_of true under = opened.Failed
opened_of false None = opened.Absent
opened_of false (Some bytes) = opened.Present
