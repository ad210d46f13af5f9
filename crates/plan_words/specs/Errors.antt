-- Why words ask for nothing.
use Rattle.std.specs.Prelude.{◌≡◌, Result, Err}
use Rattle.commands.specs.declared.usage.UsageFault.{UsageFault}
use Rattle.plan_words.specs.declared.error.WordsError.{WordsError}
use Rattle.plan_words.specs.declared.error.WordsError.TheVariants as error

-- the fault is that of the words; of want of memory nothing is said
abbrev pub IsErrorOf : {X : Type 0} → Result X UsageFault → WordsError → Type 0
IsErrorOf asked (error.Usage fault) = Err fault ≡ asked
IsErrorOf asked error.NoMemory = Unit {0}
