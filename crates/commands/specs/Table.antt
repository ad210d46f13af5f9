-- The commands, their words and their options, as tables.
use Rattle.std.specs.Prelude.{ℕ, Bool, not, if◌then◌else◌, List, [], ◌∷◌, length, map, filter, codes}
use Rattle.feed_rows.specs.Limits.{most_rides}
use Rattle.commands.specs.CommandWords.{CommandForm}
use Rattle.commands.specs.declared.table.CommandName.{CommandName}
use Rattle.commands.specs.declared.table.CommandName.TheVariants as command
use Rattle.commands.specs.declared.table.CommandOption.{CommandOption}
use Rattle.commands.specs.declared.table.CommandOption.TheVariants as option
use Rattle.commands.specs.declared.table.WordKind.{WordKind}
use Rattle.commands.specs.declared.table.WordKind.TheVariants as kind
use Rattle.commands.specs.declared.usage.StopWord.TheVariants as stop_word
use Rattle.commands.specs.declared.table.TheConstants.{RIDES, RIDER, WITHIN, STATS, PLAN, PRICE, CHECK, AUDIT, GEN}

-- an option: its name as a word, and whether a value follows it; else it is a flag
abbrev pub option_row : CommandOption → List ℕ × Bool
option_row option.Rides = (RIDES.0.now, RIDES.1)
option_row option.Rider = (RIDER.0.now, RIDER.1)
option_row option.Within = (WITHIN.0.now, WITHIN.1)
option_row option.Stats = (STATS.0.now, STATS.1)

abbrev pub option_text : CommandOption → List ℕ
option_text option = (option_row option).0

abbrev pub has_value : CommandOption → Bool
has_value option = (option_row option).1

-- the commands
abbrev pub all_commands : List CommandName
all_commands = command.Plan ∷ command.Price ∷ command.Check ∷ command.Audit ∷ command.Gen ∷ []

-- what a command's description calls a word
abbrev pub word_text : WordKind → List ℕ
word_text (kind.Stop stop_word.From) = codes "FROM"
word_text (kind.Stop stop_word.To) = codes "TO"
word_text kind.Date = codes "DATE"
word_text kind.Time = codes "TIME"
word_text kind.Ride = codes "RIDE"
word_text kind.First = codes "FIRST"
word_text kind.Last = codes "LAST"
word_text kind.Seed = codes "SEED"
word_text kind.Lines = codes "LINES"

-- a command: the word that names it, the words behind it that are no options, in the order in which they are judged, whether the
-- last of these may stand once for each ride of a journey, and the options that it takes
abbrev pub row_of : CommandName → List ℕ × List WordKind × Bool × List CommandOption
row_of command.Plan = (PLAN.0.now, PLAN.1.now, PLAN.2, PLAN.3.now)
row_of command.Price = (PRICE.0.now, PRICE.1.now, PRICE.2, PRICE.3.now)
row_of command.Check = (CHECK.0.now, CHECK.1.now, CHECK.2, CHECK.3.now)
row_of command.Audit = (AUDIT.0.now, AUDIT.1.now, AUDIT.2, AUDIT.3.now)
row_of command.Gen = (GEN.0.now, GEN.1.now, GEN.2, GEN.3.now)

abbrev pub command_text : CommandName → List ℕ
command_text name = (row_of name).0

abbrev pub words_of : CommandName → List WordKind
words_of name = (row_of name).1

abbrev pub is_repeated : CommandName → Bool
is_repeated name = (row_of name).2

abbrev pub options_of : CommandName → List CommandOption
options_of name = (row_of name).3

-- the words that a command takes behind its name
abbrev pub form_of : CommandName → CommandForm
form_of name =
    record {
      options = map option_text (filter has_value (options_of name));
      flags = map option_text (filter (λ option. not (has_value option)) (options_of name));
      fewest = length (words_of name);
      most = if is_repeated name then most_rides else length (words_of name);
    }
