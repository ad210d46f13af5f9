-- The options of the commands, as `clap` knows them.
use Rattle.std.proofs.Common.{◌≡◌, ◌<◌, ◌+◌, ℕ, suc, Bool, true, false, [], ◌∷◌, ◌++◌, length, take, drop, drop-cons, take-append-drop, Some, None, refl, sym, ap, ◌∙◌, arith}
use Rattle.std.proofs.lemmas.Bool.Decides.{nat_tests}
use Rattle.std.specs.Prelude.{codes, bytes_eq, is_some, slice_index, ◌&&◌, ◌==◌, nat_lt}
use Rattle.plain_laws.specs.Plain.{when}
use Rattle.plain_laws.proofs.Laws.{bytes_eq-true}
use Rattle.commands.specs.CommandWords.{is_dashed, joined_value}
use Rattle.clap.specs.Lexer.{long_of, short_of}
use Rattle.clap.specs.Simple.{filled, with_index}
use Rattle.clap.specs.Walk.{Rule, Text}
use Rattle.plan_words.specs.Found.{flag_rule, option_rule, words_rule}

-- the options that commands take
pub data Named : Type 0 where
  rides : Named
  rider : Named
  within : Named

abbrev pub id_of : Named → Text
id_of rides = codes "--rides"
id_of rider = codes "--rider"
id_of within = codes "--within"

abbrev pub name_of : Named → Text
name_of rides = codes "rides"
name_of rider = codes "rider"
name_of within = codes "within"

-- the flag that commands take
abbrev pub flag_id : Text
flag_id = codes "--stats"

abbrev pub flag_name : Text
flag_name = codes "stats"

-- what stands for a use of it
abbrev pub flag_value : Text
flag_value = codes "set"

-- what `clap` makes of them
abbrev pub option_taken : Named → Rule
option_taken k = filled (option_rule (id_of k) (name_of k))

abbrev pub flag_taken : Rule
flag_taken = filled (flag_rule flag_id flag_name)

abbrev pub words_taken : Rule
words_taken = with_index 1 (filled words_rule)

pub is_long : (k : Named) → long_of (id_of k) ≡ Some (name_of k, None)
is_long rides = refl
is_long rider = refl
is_long within = refl

pub is_long_joined : (k : Named) (value : Text) → long_of (id_of k ++ 61 ∷ value) ≡ Some (name_of k, Some value)
is_long_joined rides value = refl
is_long_joined rider value = refl
is_long_joined within value = refl

pub flag_long : long_of flag_id ≡ Some (flag_name, None)
flag_long = refl

-- none is `--`
pub no_end : (k : Named) → bytes_eq (id_of k) (45 ∷ 45 ∷ []) ≡ false
no_end rides = refl
no_end rider = refl
no_end within = refl

pub no_end_joined : (k : Named) (value : Text) → bytes_eq (id_of k ++ 61 ∷ value) (45 ∷ 45 ∷ []) ≡ false
no_end_joined rides value = refl
no_end_joined rider value = refl
no_end_joined within value = refl

pub flag_no_end : bytes_eq flag_id (45 ∷ 45 ∷ []) ≡ false
flag_no_end = refl

-- none is the id of the positional words
pub no_words : (k : Named) → bytes_eq (id_of k) (codes "WORDS") ≡ false
no_words rides = refl
no_words rider = refl
no_words within = refl

pub words_none : (k : Named) → bytes_eq (codes "WORDS") (id_of k) ≡ false
words_none rides = refl
words_none rider = refl
words_none within = refl

-- none is the flag
pub no_flag : (k : Named) → bytes_eq (id_of k) flag_id ≡ false
no_flag rides = refl
no_flag rider = refl
no_flag within = refl

pub no_flag_joined : (k : Named) (value : Text) → bytes_eq (id_of k ++ 61 ∷ value) flag_id ≡ false
no_flag_joined rides value = refl
no_flag_joined rider value = refl
no_flag_joined within value = refl

pub flag_none : (k : Named) → bytes_eq flag_id (id_of k) ≡ false
flag_none rides = refl
flag_none rider = refl
flag_none within = refl

pub flag_no_join : (k : Named) → joined_value (id_of k) flag_id ≡ None
flag_no_join rides = refl
flag_no_join rider = refl
flag_no_join within = refl

-- the name of an option joins no value
pub no_join : (k j : Named) → joined_value (id_of j) (id_of k) ≡ None
no_join rides rides = refl
no_join rides rider = refl
no_join rides within = refl
no_join rider rides = refl
no_join rider rider = refl
no_join rider within = refl
no_join within rides = refl
no_join within rider = refl
no_join within within = refl

-- a value is joined to one option alone
pub joins_alone : (k j : Named) (value : Text) → joined_value (id_of k) (id_of k ++ 61 ∷ value) ≡ Some value
    → joined_value (id_of j) (id_of k ++ 61 ∷ value) ≡ when (bytes_eq (id_of k) (id_of j)) value
joins_alone rides rides value is = is
joins_alone rides rider value is = refl
joins_alone rides within value is = refl
joins_alone rider rides value is = refl
joins_alone rider rider value is = is
joins_alone rider within value is = refl
joins_alone within rides value is = refl
joins_alone within rider value is = refl
joins_alone within within value is = is

-- ---- words that don't begin with `-`

pub undashed_end : (word : Text) → is_dashed word ≡ false → bytes_eq word (45 ∷ 45 ∷ []) ≡ false
undashed_end [] plain = refl
undashed_end (x ∷ xs) plain = rw plain refl

pub undashed_long : (word : Text) → is_dashed word ≡ false → long_of word ≡ None
undashed_long [] plain = refl
undashed_long (x ∷ xs) plain = rw plain refl

pub undashed_short : (word : Text) → is_dashed word ≡ false → short_of word ≡ None
undashed_short [] plain = refl
undashed_short (x ∷ xs) plain = rw plain refl

-- such a word is no option and joins no value
abbrev pub IsNone : Named → Text → Type 0
IsNone k word = (bytes_eq word (id_of k) ≡ false) × (joined_value (id_of k) word ≡ None)

pub undashed : (k : Named) (word : Text) → is_dashed word ≡ false → IsNone k word
undashed rides [] plain = (refl, refl)
undashed rider [] plain = (refl, refl)
undashed within [] plain = (refl, refl)
undashed rides (x ∷ xs) plain = (rw plain refl, rw plain refl)
undashed rider (x ∷ xs) plain = (rw plain refl, rw plain refl)
undashed within (x ∷ xs) plain = (rw plain refl, rw plain refl)

-- nor is it the flag
pub undashed_flag : (word : Text) → is_dashed word ≡ false → bytes_eq word flag_id ≡ false
undashed_flag [] plain = refl
undashed_flag (x ∷ xs) plain = rw plain refl

-- ---- the parts of a word that joins a value

pub both : (a b : Bool) → (a && b) ≡ true → (a ≡ true) × (b ≡ true)
both true b e = (refl, e)
both false b e = absurd (cc)

pub joined_parts : (option word : Text) → is_some (joined_value option word) ≡ true
    → (value : Text) × (joined_value option word ≡ Some value) × (word ≡ option ++ 61 ∷ value)
joined_parts option word some = step _ refl
  where
    value : Text
    value = drop (length option + 1) word

    step : (is : Bool) → (bytes_eq (take (length option) word) option && (slice_index word (length option) == 61) && nat_lt (length option + 1) (length word)) ≡ is
        → (value : Text) × (joined_value option word ≡ Some value) × (word ≡ option ++ 61 ∷ value)
    step true e =
        let outer = both _ (nat_lt (length option + 1) (length word)) e in
        let inner = both (bytes_eq (take (length option) word) option) _ outer.0 in
        (value, rw e refl, parts (bytes_eq-true _ option inner.0) inner.1 outer.1)
      where
        parts : take (length option) word ≡ option → (slice_index word (length option) == 61) ≡ true
            → nat_lt (length option + 1) (length word) ≡ true → word ≡ option ++ 61 ∷ value
        parts front equals long =
            let n = length option in
            let inside : n < length word = grind (arith, nat_tests, long) in
            let at : slice_index word n ≡ 61 = grind (arith, nat_tests, equals) in
            let next : suc n ≡ n + 1 = omega arith in
            sym (take-append-drop n word) ∙ ap (λ (t : Text). t ++ drop n word) front
            ∙ ap (λ (t : Text). option ++ t)
            (drop-cons word n 0 inside ∙ ap (λ (x : ℕ). x ∷ drop (suc n) word) at ∙ ap
            (λ (m : ℕ). 61 ∷ drop m word) next)
    step false e = absurd (let bad : false ≡ true = rw e at some in cc)
