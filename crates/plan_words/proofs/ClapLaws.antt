-- What `clap` finds in words that fit is what the definitions give.
use Rattle.std.proofs.Common.{◌≡◌, Bool, true, false, List, [], ◌∷◌, length, map, filter, drop, Some, Option, refl, sym, ap, subst, ◌∙◌}
use Rattle.std.specs.Prelude.{codes, bytes_eq, is_some, not, unwrap_or, ◌||◌}
use Rattle.std.specs.List.{list_all, list_any}
use Rattle.plain_laws.specs.Plain.{all_below}
use Rattle.plain_laws.proofs.Laws.{bytes_eq-true, eq-bytes_eq}
use Rattle.commands.specs.CommandWords.{has_flag, is_one_of, joined_value, role_at, is_taken, option_value, fits_form}
use Rattle.clap.specs.Matches.{first_value, found_of}
use Rattle.clap.specs.Simple.{built, is_simple, matches_of}
use Rattle.clap.specs.Walk.{Rule, Text, arg_by_id, arg_by_index, arg_by_long, first_of, is_empty, rows_after, rows_of}
use Rattle.clap.specs.declared.parser.matches.ArgMatches.{ArgMatches}
use Rattle.clap.proofs.WalkLemmas.{first_value-rows, raw_values-rows}
use Rattle.plan_words.specs.Found.{IsFound, known_command}
use Rattle.commands.specs.Table.{form_of, has_value, option_text, options_of}
use Rattle.commands.specs.declared.table.CommandName.{CommandName}
use Rattle.commands.specs.declared.table.CommandOption.{CommandOption}
use Rattle.commands.specs.declared.table.CommandOption.TheVariants as option
use Rattle.plan_words.specs.Words.{behind}
use Rattle.plan_words.proofs.OptionLaws.{Named, rides, rider, within, flag_id, flag_name, flag_taken, id_of, name_of, option_taken, words_taken}
use Rattle.plan_words.proofs.RowLaws.{values_in}
use Rattle.plan_words.proofs.WalkLaws.{IsKnown, flag_found, option_found, words_found}
use Rattle.plan_words.proofs.WordLaws.{first_of_two}

none_takes : {X : Type 0} → false ≡ true → X
none_takes bad = absurd (cc)

or_right : (a b : Bool) → b ≡ true → (a || b) ≡ true
or_right true b e = refl
or_right false b e = e

-- an option that has a value is one of these
named_option : (o : CommandOption) → has_value o ≡ true → (k : Named) × (option_text o ≡ id_of k)
named_option option.Rides e = (rides, refl)
named_option option.Rider e = (rider, refl)
named_option option.Within e = (within, refl)
named_option option.Stats e = none_takes e

-- and one that has none is the flag
flag_option : (o : CommandOption) → not (has_value o) ≡ true → option_text o ≡ flag_id
flag_option option.Rides e = none_takes e
flag_option option.Rider e = none_takes e
flag_option option.Within e = none_takes e
flag_option option.Stats e = refl

-- the names of options that pass
abbrev names : (CommandOption → Bool) → List CommandOption → List Text
names picks os = map option_text (filter picks os)

-- an option that is picked, whose name passes and is one of the names
abbrev Found : (Text → Bool) → (CommandOption → Bool) → List CommandOption → Type 0
Found test picks os =
    (o : CommandOption) × (picks o ≡ true) × (test (option_text o) ≡ true) × (is_one_of (names picks os) (option_text o) ≡ true)

-- where one of the names passes there is such an option
among : (test : Text → Bool) (picks : CommandOption → Bool) (os : List CommandOption) → list_any test (names picks os) ≡ true → Found test picks os
among test picks [] any = none_takes any
among test picks (o ∷ os) any = step (picks o) refl (among test picks os)
  where
    step : (here : Bool) → picks o ≡ here → (list_any test (names picks os) ≡ true → Found test picks os) → Found test picks (o ∷ os)
    step false e rest = let found = rest (rw e at any) in (found.0, found.1, found.2, rw e found.3)
    step true e rest = both (test (option_text o)) refl
      where
        both : (passes : Bool) → test (option_text o) ≡ passes → Found test picks (o ∷ os)
        both true passes = (o, e, passes, rw (e, eq-bytes_eq (option_text o) (option_text o) refl) refl)
        both false passes =
            let found = rest (rw (e, passes) at any) in
            (found.0, found.1, found.2, rw e (or_right (bytes_eq (option_text found.0) (option_text o)) _ found.3))

flag_is : (os : List CommandOption) (word : Text) → is_one_of (names (λ o. not (has_value o)) os) word ≡ true → word ≡ flag_id
flag_is os word takes =
    let found = among (λ name. bytes_eq word name) (λ o. not (has_value o)) os takes in
    bytes_eq-true word (option_text found.0) found.2 ∙ flag_option found.0 found.1

named_among : (os : List CommandOption) (word : Text) → is_one_of (names has_value os) word ≡ true → (k : Named) × (word ≡ id_of k)
named_among os word takes =
    let found = among (λ name. bytes_eq word name) has_value os takes in
    let named = named_option found.0 found.1 in
    (named.0, bytes_eq-true word (option_text found.0) found.2 ∙ named.1)

joined_among : (os : List CommandOption) (word : Text) → list_any (λ name. is_some (joined_value name word)) (names has_value os) ≡ true
    → (k : Named) × (is_one_of (names has_value os) (id_of k) ≡ true) × (is_some (joined_value (id_of k) word) ≡ true)
joined_among os word takes =
    let found = among (λ name. is_some (joined_value name word)) has_value os takes in
    let named = named_option found.0 found.1 in
    let P : Text → Type 0 = λ text. (is_one_of (names has_value os) text ≡ true) × (is_some (joined_value text word) ≡ true) in
    let parts = subst P named.1 (found.3, found.2) in
    (named.0, parts.0, parts.1)

-- what `clap` makes of the command's arguments
abbrev known_rules : List Rule
known_rules = (built known_command).top.rules

-- an option is found by its name and by its id
abbrev IsKept : Named → Type 0
IsKept k =
    (arg_by_long known_rules (name_of k) ≡ Some (option_taken k)) ×
    (arg_by_id known_rules (id_of k) ≡ Some (option_taken k))

kept : (k : Named) → IsKept k
kept rides = (refl, refl)
kept rider = (refl, refl)
kept within = (refl, refl)

-- the flag is found by its name
flag_kept : arg_by_long known_rules flag_name ≡ Some flag_taken
flag_kept = refl

-- the positional words are found by their place and by their id
words_by_place : arg_by_index known_rules 1 ≡ Some words_taken
words_by_place = refl

words_by_name : arg_by_id known_rules (codes "WORDS") ≡ Some words_taken
words_by_name = refl

no_defaults : list_all (λ rule. is_empty rule.defaults) known_rules ≡ true
no_defaults = refl

known : (f : CommandName) → IsKnown (form_of f) known_rules
known f = record {
  flags = flag_is (options_of f);
  by_flag = λ takes. flag_kept;
  named = named_among (options_of f);
  joined = joined_among (options_of f);
  by_long = λ k takes. (kept k).0;
  by_id = λ k takes. (kept k).1;
  words_by_index = words_by_place;
  words_by_id = words_by_name;
  no_defaults = no_defaults;
}

pub simple : is_simple known_command ≡ true
simple = refl

behind_is : (all : List Text) → drop 1 all ≡ behind all
behind_is [] = refl
behind_is (word ∷ words) = refl

matches_are : (all : List Text) → matches_of known_command all ≡ rows_after known_rules [] (behind all)
matches_are all = ap (rows_after known_rules []) (behind_is all)

all_taken : (f : CommandName) (words : List Text) → fits_form (form_of f) words ≡ true
    → all_below (length words) (λ i. is_taken (role_at (form_of f) words i)) ≡ true
unfolding fits_form
all_taken f words fits = first_of_two _ _ (first_of_two _ _ (first_of_two _ _ (first_of_two _ _ fits)))

-- the matches of words that fit
pub is_found : (f : CommandName) (all : List Text) (m : ArgMatches) → fits_form (form_of f) (behind all) ≡ true
    → rows_of (found_of m) ≡ matches_of known_command all
    → IsFound (form_of f) (behind all) m
is_found f all m fits rows =
    let words = behind all in
    let taken = all_taken f words fits in
    let are = rows ∙ matches_are all in
    record {
      named =
          ap (λ (o : Option (List Text)). unwrap_or o []) (raw_values-rows (found_of m) (codes "WORDS")) ∙ ap
          (values_in (codes "WORDS")) are
          ∙ words_found (form_of f) known_rules (known f) words taken;
      options = λ option takes.
          let which = (known f).named option takes in
          let is_k = subst (λ o. is_one_of (form_of f).options o ≡ true) which.1 takes in
          subst (λ o. first_value (found_of m) o ≡ option_value words o) (sym which.1)
          (first_value-rows (found_of m) (id_of which.0) ∙ ap (first_of (id_of which.0)) are ∙ option_found
          (form_of f) known_rules (known f) words taken which.0 is_k);
      flags = λ flag takes.
          subst (λ o. is_some (first_value (found_of m) o) ≡ has_flag words o) (sym ((known f).flags flag takes))
          (ap is_some (first_value-rows (found_of m) flag_id ∙ ap (first_of flag_id) are)
          ∙ flag_found (form_of f) known_rules (known f) words taken);
    }
