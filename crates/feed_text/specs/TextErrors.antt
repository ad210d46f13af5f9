-- Why a file's bytes make no table.
use Rattle.std.specs.Prelude.{◌≡◌, Option, Some}
use Rattle.feed_files.specs.declared.faults.FeedFault.{FeedFault}
use Rattle.feed_text.specs.declared.errors.TextError.{TextError}
use Rattle.feed_text.specs.declared.errors.TextError.TheVariants as error

-- the error is this fault, or want of memory, which may come at any time
abbrev pub IsErrorOf : Option FeedFault → TextError → Type 0
IsErrorOf fault (error.Fault found) = fault ≡ Some found
IsErrorOf fault error.NoMemory = Unit {0}
