-- Words behind a command, and what is counted and picked of them.
use Rattle.std.proofs.Common.{◌≡◌, ℕ, zero, suc, ◌+◌, ◌-◌, ◌<◌, ◌≤◌, Bool, true, false, List, [], ◌∷◌, length, slice_get, Some, None, refl, arith, add-one, nat_lt, ◌&&◌}
use Rattle.std.specs.Prelude.{if◌then◌else◌, is_some, codes}
use Rattle.std.specs.List.{list_any}
use Rattle.std.proofs.lemmas.Option.{slice_get-get_or}
use Rattle.plain_laws.specs.Plain.{count_below}
use Rattle.commands.specs.CommandWords.{CommandForm, word_at, is_one_of, is_dashed, joined_value, follows_option, role_at}
use Rattle.commands.specs.declared.usage.WordRole.{WordRole}
use Rattle.commands.specs.declared.usage.WordRole.TheVariants as role
use Rattle.plan_words.specs.Words.{behind}

pub length_behind : (words : List (List ℕ)) → length (behind words) ≡ length words - 1
length_behind [] = refl
length_behind (word ∷ words) = omega arith

pub word_behind : (words : List (List ℕ)) (i : ℕ) → word_at (behind words) i ≡ word_at words (i + 1)
word_behind [] i = refl
word_behind (word ∷ words) i = rw (add-one i) refl

-- one number more
pub count_below_next : (i : ℕ) (test : ℕ → Bool) → count_below (i + 1) test ≡ count_below i test + (if test i then 1 else 0)
count_below_next i test = rw (add-one i) refl

-- a word by its place
pub word_there : (words : List (List ℕ)) (i : ℕ) → i < length words → slice_get words i ≡ Some (word_at words i)
word_there words i lt = slice_get-get_or words i [] lt

pub no_word : (words : List (List ℕ)) (i : ℕ) → length words ≤ i → slice_get words i ≡ None
no_word [] i past = refl
no_word (word ∷ words) zero past = absurd (omega arith)
no_word (word ∷ words) (suc i) past = no_word words i (omega arith)

-- what a word is, by its text
abbrev pub role_of_word : CommandForm → List (List ℕ) → ℕ → List ℕ → WordRole
role_of_word form words i word =
    if is_one_of ([] ∷ codes "-" ∷ codes "--" ∷ []) word then role.Refused
    else if follows_option form words i then (if is_dashed word then role.Refused else role.OptionValue)
    else if is_one_of form.options word then (if nat_lt (i + 1) (length words) then role.OptionName else role.Refused)
    else if list_any (λ option. is_some (joined_value option word)) form.options then role.OptionWithValue
    else if is_one_of form.flags word then role.Flag
    else if is_dashed word then role.Refused
    else role.Positional

pub role_by_word : (form : CommandForm) (words : List (List ℕ)) (i : ℕ) → role_at form words i ≡ role_of_word form words i (word_at words i)
unfolding role_at
role_by_word form words i = refl

pub first_of_two : (a b : Bool) → (a && b) ≡ true → a ≡ true
first_of_two true b e = refl
first_of_two false b e = e
