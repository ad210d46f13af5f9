-- The grammar of the words behind a command: options with values, flags and positional words, in any order.
use Rattle.std.specs.Prelude.{ℕ, ◌+◌, ◌-◌, ◌==◌, Bool, true, false, ◌&&◌, nat_lt, nat_le, if◌then◌else◌, List, [], ◌∷◌, length, take, drop, slice_get, slice_index, slice_index_or, Option, is_some, codes, bytes_eq}
use Rattle.std.specs.List.{list_any, list_all}
use Rattle.plain_laws.specs.Plain.{when, all_below, any_below, count_below, picks_below, first_below}
use Rattle.commands.specs.declared.usage.WordRole.{WordRole}
use Rattle.commands.specs.declared.usage.WordRole.TheVariants as role

-- the words that a command takes: the names of its options, which have a value, and of its flags, which have none, and
-- the least and the greatest number of positional words
pub record CommandForm : Type 0 where
  pub options : List (List ℕ)
  pub flags : List (List ℕ)
  pub fewest : ℕ
  pub most : ℕ

-- word i, and the empty word past the end
abbrev pub word_at : List (List ℕ) → ℕ → List ℕ
word_at words i = slice_index_or words i []

-- the word is one of these
abbrev pub is_one_of : List (List ℕ) → List ℕ → Bool
is_one_of names word = list_any (λ name. bytes_eq word name) names

-- the word begins with `-`
abbrev pub is_dashed : List ℕ → Bool
is_dashed word = slice_index word 0 == 45

-- the value that the word gives to the option as `--name=value`, where it is not empty
abbrev pub joined_value : List ℕ → List ℕ → Option (List ℕ)
joined_value option word =
    when (bytes_eq (take (length option) word) option && (slice_index word (length option) == 61) && nat_lt (length option + 1) (length word))
    (drop (length option + 1) word)

-- the word before word i names an option. As no value begins with `-`, that word alone tells it
abbrev pub follows_option : CommandForm → List (List ℕ) → ℕ → Bool
follows_option form words i = nat_lt 0 i && is_one_of form.options (word_at words (i - 1))

-- What word i is. An empty word, `-` and `--` are refused. The name of an option takes the next word, which must exist and
-- not begin with `-`, as its value. Every word that begins with `-` and is neither `--name`, of an option or a flag, nor
-- `--name=value`, of an option, is refused. Every other word is positional.
unfoldable pub role_at : CommandForm → List (List ℕ) → ℕ → WordRole
role_at form words i =
    let word = word_at words i in
    if is_one_of ([] ∷ codes "-" ∷ codes "--" ∷ []) word then role.Refused
    else if follows_option form words i then (if is_dashed word then role.Refused else role.OptionValue)
    else if is_one_of form.options word then (if nat_lt (i + 1) (length words) then role.OptionName else role.Refused)
    else if list_any (λ option. is_some (joined_value option word)) form.options then role.OptionWithValue
    else if is_one_of form.flags word then role.Flag
    else if is_dashed word then role.Refused
    else role.Positional

-- the command takes such a word
abbrev pub is_taken : WordRole → Bool
is_taken role.OptionName = true
is_taken role.OptionValue = true
is_taken role.OptionWithValue = true
is_taken role.Flag = true
is_taken role.Positional = true
is_taken role.Refused = false

-- the word is a positional one
abbrev pub is_positional : WordRole → Bool
is_positional role.OptionName = false
is_positional role.OptionValue = false
is_positional role.OptionWithValue = false
is_positional role.Flag = false
is_positional role.Positional = true
is_positional role.Refused = false

-- the positional words, in order
abbrev pub positional_words : CommandForm → List (List ℕ) → List (List ℕ)
positional_words form words = picks_below (length words) (λ i. is_positional (role_at form words i)) (word_at words)

-- the value that word i gives to the option: the next word after `--name`, or what stands behind `--name=`
unfoldable pub value_at : List (List ℕ) → List ℕ → ℕ → Option (List ℕ)
value_at words option i =
    if bytes_eq (word_at words i) option then slice_get words (i + 1) else joined_value option (word_at words i)

-- the value of an option, if the words give one
abbrev pub option_value : List (List ℕ) → List ℕ → Option (List ℕ)
option_value words option = first_below (length words) (value_at words option)

-- the words set the flag
abbrev pub has_flag : List (List ℕ) → List ℕ → Bool
has_flag words flag = any_below (length words) (λ i. bytes_eq (word_at words i) flag)

-- the option stands at most once
abbrev pub is_single_option : List (List ℕ) → List ℕ → Bool
is_single_option words option = nat_le (count_below (length words) (λ i. is_some (value_at words option i))) 1

-- the flag stands at most once
abbrev pub is_single_flag : List (List ℕ) → List ℕ → Bool
is_single_flag words flag = nat_le (count_below (length words) (λ i. bytes_eq (word_at words i) flag)) 1

-- the words are such as the command takes, each option and flag at most once, with as many positional words as it asks for
unfoldable pub fits_form : CommandForm → List (List ℕ) → Bool
fits_form form words =
    all_below (length words) (λ i. is_taken (role_at form words i))
    && list_all (is_single_option words) form.options
    && list_all (is_single_flag words) form.flags
    && nat_le form.fewest (length (positional_words form words))
    && nat_le (length (positional_words form words)) form.most
