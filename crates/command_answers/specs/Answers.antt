-- The answers of the program and their numbers.
use Rattle.std.specs.Prelude.{ℕ}
use Rattle.command_answers.specs.declared.status.Status.{Status}
use Rattle.command_answers.specs.declared.status.Status.TheVariants as status

-- the number with which the program ends
abbrev pub status_number : Status → ℕ
status_number status.Answered = 0
status_number (status.Usage fault) = 2
status_number (status.Refused fault) = 3
status_number status.ReadFault = 4
status_number status.WriteFault = 5
status_number status.NoMemory = 6
