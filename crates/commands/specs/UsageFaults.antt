-- The faults of a command's words: their names and arguments, as they are printed.
use Rattle.std.specs.Prelude.{ℕ, List, codes, decimal, Result, Ok, Err}
use Rattle.commands.specs.Table.{option_text, word_text}
use Rattle.commands.specs.declared.table.CommandOption.TheVariants as option
use Rattle.commands.specs.declared.table.WordKind.TheVariants as kind
use Rattle.commands.specs.declared.usage.UsageFault.{UsageFault}
use Rattle.commands.specs.declared.usage.UsageFault.TheVariants as usage

-- a fault's name
abbrev pub usage_text : UsageFault → List ℕ
usage_text usage.WrongWords = codes "WrongWords"
usage_text usage.BadDate = codes "BadDate"
usage_text usage.BadTime = codes "BadTime"
usage_text usage.BadRides = codes "BadRides"
usage_text usage.BadWindow = codes "BadWindow"
usage_text (usage.BadRide k) = codes "BadRide"
usage_text usage.BadFirst = codes "BadFirst"
usage_text usage.BadLast = codes "BadLast"
usage_text usage.BadSeed = codes "BadSeed"
usage_text usage.BadLines = codes "BadLines"
usage_text (usage.UnknownStop word) = codes "UnknownStop"
usage_text (usage.WrongStopKind word) = codes "WrongStopKind"
usage_text (usage.NoSuchRide k) = codes "NoSuchRide"
usage_text (usage.NoChange k) = codes "NoChange"
usage_text usage.UnknownRider = codes "UnknownRider"
usage_text usage.RiderNeeded = codes "RiderNeeded"

-- a fault's argument: the word or the option that is wrong, or the number of a ride
abbrev pub usage_argument : UsageFault → List ℕ
usage_argument usage.WrongWords = codes "-"
usage_argument usage.BadDate = word_text kind.Date
usage_argument usage.BadTime = word_text kind.Time
usage_argument usage.BadRides = option_text option.Rides
usage_argument usage.BadWindow = option_text option.Within
usage_argument (usage.BadRide k) = decimal k
usage_argument usage.BadFirst = word_text kind.First
usage_argument usage.BadLast = word_text kind.Last
usage_argument usage.BadSeed = word_text kind.Seed
usage_argument usage.BadLines = word_text kind.Lines
usage_argument (usage.UnknownStop word) = word_text (kind.Stop word)
usage_argument (usage.WrongStopKind word) = word_text (kind.Stop word)
usage_argument (usage.NoSuchRide k) = decimal k
usage_argument (usage.NoChange k) = decimal k
usage_argument usage.UnknownRider = option_text option.Rider
usage_argument usage.RiderNeeded = option_text option.Rider

-- what follows from the value; a fault stays
abbrev pub unless_fault : {X Y : Type 0} → Result X UsageFault → (X → Result Y UsageFault) → Result Y UsageFault
unless_fault (Ok x) next = next x
unless_fault (Err fault) next = Err fault
