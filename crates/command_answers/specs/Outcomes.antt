-- What comes of a command before anything is written.
use Rattle.std.specs.Prelude.{Result}
use Rattle.command_answers.specs.Due.{Task, IsDue}
use Rattle.command_answers.specs.declared.outcome.Outcome.{Outcome}
use Rattle.command_answers.specs.declared.refusal.Refusal.{Refusal}

-- the answer and the lines are due for this task, or for what refuses it
abbrev pub IsOutcome : Result Task Refusal → Outcome → Type 0
IsOutcome task out = IsDue task out.told out.text
