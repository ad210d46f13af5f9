-- What `clap` finds in the words of a command that fit its form.
use Rattle.std.specs.Prelude.{◌≡◌, true, List, [], ◌∷◌, ℕ, Some, is_some, unwrap_or, option_map, codes}
use Rattle.commands.specs.CommandWords.{CommandForm, has_flag, is_one_of, positional_words, option_value}
use Rattle.clap.specs.Matches.{found_of, first_value, matched_of, raw_values}
use Rattle.clap.specs.Simple.{App, new_app, new_rule, on_top, with_rule}
use Rattle.clap.specs.Walk.{Rule}
use Rattle.clap.specs.declared.builder.action.ArgAction.TheVariants.{Append}
use Rattle.clap.specs.declared.parser.matches.ArgMatches.{ArgMatches}

-- the option of that id, which words name so
abbrev pub option_rule : List ℕ → List ℕ → Rule
option_rule id name = record (new_rule id) { long = Some name; action = Some Append }

-- the flag of that id, which words name so: each use of it is kept as a value that stands for it
abbrev pub flag_rule : List ℕ → List ℕ → Rule
flag_rule id name =
    record (new_rule id) {
      long = Some name;
      action = Some Append;
      range = Some (record { start_inclusive = 0; end_inclusive = 0 });
      missing = codes "set" ∷ [];
    }

-- the positional words
abbrev pub words_rule : Rule
words_rule = record (new_rule (codes "WORDS")) { action = Some Append }

-- a command without options, help and version
abbrev pub plain_command : App
plain_command =
    with_rule (on_top (λ s. record s { disable_help_flag = true; disable_version_flag = true })
    (new_app (codes "farewise"))) words_rule

-- a command with the options of all commands
abbrev pub with_all_rules : App → App
with_all_rules app =
    with_rule (with_rule (with_rule (with_rule app (option_rule (codes "--rides") (codes "rides")))
    (option_rule (codes "--rider") (codes "rider")))
    (option_rule (codes "--within") (codes "within")))
    (flag_rule (codes "--stats") (codes "stats"))

-- the command as `clap` knows it, whichever is named
abbrev pub known_command : App
known_command = with_all_rules plain_command

-- the positional words that were found, in order
abbrev pub named_in : ArgMatches → List (List ℕ)
named_in found = unwrap_or (option_map raw_values (matched_of (found_of found) (codes "WORDS"))) []

-- what was found is what the definitions give
pub record IsFound (taken : CommandForm) (words : List (List ℕ)) (found : ArgMatches) : Type 0 where
  pub named : named_in found ≡ positional_words taken words
  pub options : (option : List ℕ) → is_one_of taken.options option ≡ true
      → first_value (found_of found) option ≡ option_value words option
  pub flags : (flag : List ℕ) → is_one_of taken.flags flag ≡ true
      → is_some (first_value (found_of found) flag) ≡ has_flag words flag
