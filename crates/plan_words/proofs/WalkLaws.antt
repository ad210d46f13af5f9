-- What `clap`'s walk over the words of a command finds, where the words fit.
use Rattle.std.proofs.Common.{◌≡◌, ◌<◌, ◌≤◌, ◌+◌, ◌-◌, ℕ, zero, suc, Bool, true, false, List, [], ◌∷◌, ◌++◌, length, take, take_all, le_refl, Some, None, Option, refl, sym, ap, ap₂, subst, ◌∙◌, arith, add-one, append-nil}
use Rattle.std.specs.Prelude.{codes, bytes_eq, is_some, slice_get, ◌&&◌, nat_lt, if◌then◌else◌}
use Rattle.std.specs.List.{fold, list_any, list_all}
use Rattle.std.specs.Option.{option_to_list}
use Rattle.std.proofs.lemmas.List.Sums.{fold_more}
use Rattle.std.proofs.lemmas.Bool.Decides.{nat_tests}
use Rattle.plain_laws.specs.Plain.{all_below, joined_below, when}
use Rattle.plain_laws.proofs.Laws.{all_below-at, bytes_eq-true, eq-bytes_eq, joined_below-picks, one_where}
use Rattle.commands.specs.CommandWords.{CommandForm, word_at, is_one_of, is_dashed, joined_value, follows_option, role_at, is_taken, is_positional, positional_words, value_at, option_value, has_flag}
use Rattle.commands.specs.declared.usage.WordRole.TheVariants as role
use Rattle.clap.specs.Lexer.{long_of}
use Rattle.clap.specs.Simple.{filled}
use Rattle.clap.specs.Walk.{Row, Rule, Text, Waiting, Walk, arg_by_id, arg_by_index, arg_by_long, default_rows, finished, first_of, idle, is_empty, is_pending, nothing_held, option, positional, reading_by, rows_after, settled_rows, walk_from, walked, with_default, has_row}
use Rattle.clap.specs.declared.builder.value_parser.Reading.{Reading}
use Rattle.plan_words.specs.Found.{flag_rule}
use Rattle.plan_words.proofs.OptionLaws.{Named, both, flag_id, flag_long, flag_name, flag_no_end, flag_no_join, flag_none, flag_taken, flag_value, id_of, is_long, is_long_joined, joined_parts, joins_alone, name_of, no_end, no_end_joined, no_flag, no_flag_joined, no_join, no_words, option_taken, undashed, undashed_end, undashed_flag, undashed_long, undashed_short, words_none, words_taken}
use Rattle.plan_words.proofs.RowLaws.{first-joined_below, first_of-values_in, some-joined_below, values_in, values_in-with_one, with_one}
use Rattle.plan_words.proofs.WordLaws.{role_by_word, role_of_word, word_there}

-- ---- one word

-- nothing waits for a value
abbrev pub IsFree : Waiting → Type 0
IsFree idle = Unit {0}
IsFree (option id) = ⊥
IsFree positional = Unit {0}

-- the walk between two words
abbrev pub between : Option (Text × List Text) → List Row → Waiting → Walk
between pending rows waiting =
    record {
      held = record { rows = rows; pending = pending; skip = 0 };
      waiting = waiting;
      position = 1;
      is_trailing = false;
      stopped = None;
    }

and_false : (a : Bool) → (a && false) ≡ false
and_false true = refl
and_false false = refl

module _ (rules : List Rule) (pending : Option (Text × List Text)) (rows : List Row) where
  -- the name of an option
  pub name_step : (waiting : Waiting) → IsFree waiting → (k : Named)
      → arg_by_long rules (name_of k) ≡ Some (option_taken k)
      → walked rules [] (between pending rows waiting) (id_of k) ≡ between (Some (id_of k, []))
      (settled_rows rules pending rows) (option (id_of k))
  unfolding walked
  name_step idle free k by = rw (no_end k, is_long k, by) refl
  name_step (option id) free k by = absurd free
  name_step positional free k by = rw (no_end k, is_long k, by) refl

  -- an option with its value
  pub joined_step : (waiting : Waiting) → IsFree waiting → (k : Named) (value : Text)
      → arg_by_long rules (name_of k) ≡ Some (option_taken k)
      → walked rules [] (between pending rows waiting) (id_of k ++ 61 ∷ value) ≡ between None
      (with_one (id_of k) value (settled_rows rules pending rows)) idle
  unfolding walked
  joined_step idle free k value by = rw (no_end_joined k value, is_long_joined k value, by) refl
  joined_step (option id) free k value by = absurd free
  joined_step positional free k value by = rw (no_end_joined k value, is_long_joined k value, by) refl

  -- a flag
  pub flag_step : (waiting : Waiting) → IsFree waiting → (id name : Text) → bytes_eq id (45 ∷ 45 ∷ []) ≡ false
      → long_of id ≡ Some (name, None) → arg_by_long rules name ≡ Some (filled (flag_rule id name))
      → walked rules [] (between pending rows waiting) id ≡ between None
      (with_one id flag_value (settled_rows rules pending rows)) idle
  unfolding walked
  flag_step idle free id name no_end long by = rw (no_end, long, by) refl
  flag_step (option other) free id name no_end long by = absurd free
  flag_step positional free id name no_end long by = rw (no_end, long, by) refl

  -- a positional word
  pub word_step : (waiting : Waiting) → IsFree waiting → (word : Text) → is_dashed word ≡ false
      → arg_by_index rules 1 ≡ Some words_taken
      → walked rules [] (between pending rows waiting) word ≡ between (Some (codes "WORDS", word ∷ []))
      (settled_rows rules pending rows) positional
  unfolding walked
  word_step idle free word plain by =
      rw (
        undashed_end word plain,
        undashed_long word plain,
        undashed_short word plain,
        by,
        and_false
            (is_pending words_taken pending),
      ) refl
  word_step (option id) free word plain by = absurd free
  word_step positional free word plain by =
      rw (
        undashed_end word plain,
        undashed_long word plain,
        undashed_short word plain,
        by,
        and_false
            (is_pending words_taken pending),
      ) refl

-- the value behind the name of an option
pub value_step : (rules : List Rule) (rows : List Row) (k : Named) (value : Text) → is_dashed value ≡ false
    → arg_by_id rules (id_of k) ≡ Some (option_taken k)
    → walked rules [] (between (Some (id_of k, [])) rows (option (id_of k))) value ≡ between
    (Some (id_of k, value ∷ [])) rows idle
unfolding walked
value_step rules rows k value plain by =
    rw (
      undashed_end value plain,
      undashed_long value plain,
      undashed_short value plain,
      by,
      eq-bytes_eq (id_of k)
          (id_of k) refl,
    ) refl

-- ---- defaults

unfilled_one : (id : Text) (how : Reading) (defaults : List Text) → is_empty defaults ≡ true
    → (rows : List Row) (has : Bool)
    → (if has then rows else default_rows id how defaults rows) ≡ rows
unfilled_one id how [] none rows true = refl
unfilled_one id how [] none rows false = refl
unfilled_one id how (value ∷ values) none rows has =
    absurd (let zero_is : length (value ∷ values) ≡ 0 = grind (arith, nat_tests, none) in omega (arith, zero_is))

-- arguments without defaults get no rows
unfilled : (rules : List Rule) → list_all (λ rule. is_empty rule.defaults) rules ≡ true → (rows : List Row)
    → fold with_default rows rules ≡ rows
unfilled [] none rows = refl
unfilled (rule ∷ rules) none rows =
    let parts = both (is_empty rule.defaults) _ none in
    ap (λ (rs : List Row). fold with_default rs rules)
    (unfilled_one rule.id (reading_by rule) rule.defaults parts.0 rows (has_row rule.id rows))
    ∙ unfilled rules parts.1 rows

-- ---- a command that `clap` knows

pub record IsKnown (taken : CommandForm) (rules : List Rule) : Type 0 where
  pub flags : (word : Text) → is_one_of taken.flags word ≡ true → word ≡ flag_id
  pub by_flag : is_one_of taken.flags flag_id ≡ true → arg_by_long rules flag_name ≡ Some flag_taken
  pub named : (word : Text) → is_one_of taken.options word ≡ true → (k : Named) × (word ≡ id_of k)
  pub joined : (word : Text) → list_any (λ name. is_some (joined_value name word)) taken.options ≡ true
      → (k : Named) × (is_one_of taken.options (id_of k) ≡ true) × (is_some (joined_value (id_of k) word) ≡ true)
  pub by_long : (k : Named) → is_one_of taken.options (id_of k) ≡ true
      → arg_by_long rules (name_of k) ≡ Some (option_taken k)
  pub by_id : (k : Named) → is_one_of taken.options (id_of k) ≡ true → arg_by_id rules (id_of k) ≡ Some (option_taken k)
  pub words_by_index : arg_by_index rules 1 ≡ Some words_taken
  pub words_by_id : arg_by_id rules (codes "WORDS") ≡ Some words_taken
  pub no_defaults : list_all (λ rule. is_empty rule.defaults) rules ≡ true

-- what an id gets: the positional words, an option, or the flag
pub data Slot : Type 0 where
  words_slot : Slot
  option_slot : Named → Slot
  flag_slot : Slot

abbrev pub slot_id : Slot → Text
slot_id words_slot = codes "WORDS"
slot_id (option_slot k) = id_of k
slot_id flag_slot = flag_id

module _ (taken : CommandForm) (rules : List Rule) (known : IsKnown taken rules) (words : List Text) where
  abbrev IsSlot : Slot → Type 0
  IsSlot words_slot = Unit {0}
  IsSlot (option_slot k) = is_one_of taken.options (id_of k) ≡ true
  IsSlot flag_slot = Unit {0}

  -- what word i gives to an id
  abbrev gives : Slot → ℕ → List Text
  gives words_slot i = one_where (is_positional (role_at taken words i)) (word_at words i)
  gives (option_slot k) i = option_to_list (value_at words (id_of k) i)
  gives flag_slot i = one_where (bytes_eq (word_at words i) flag_id) flag_value

  -- ---- what a word is

  -- no command takes the word
  abbrev never_taken : Text → Bool
  never_taken word = is_one_of ([] ∷ codes "-" ∷ codes "--" ∷ []) word

  data Seen (i : ℕ) : Type 0 where
    names : (k : Named) → is_one_of taken.options (id_of k) ≡ true → follows_option taken words i ≡ false
        → word_at words i ≡ id_of k → i + 1 < length words
        → role_at taken words i ≡ role.OptionName → Seen i
    values : follows_option taken words i ≡ true → is_dashed (word_at words i) ≡ false
        → role_at taken words i ≡ role.OptionValue → Seen i
    joins : (k : Named) (value : Text) → is_one_of taken.options (id_of k) ≡ true → follows_option taken words i ≡ false
        → is_one_of taken.options (word_at words i) ≡ false → word_at words i ≡ id_of k ++ 61 ∷ value
        → joined_value (id_of k) (word_at words i) ≡ Some value
        → role_at taken words i ≡ role.OptionWithValue → Seen i
    sets : is_one_of taken.flags flag_id ≡ true → follows_option taken words i ≡ false
        → is_one_of taken.options (word_at words i) ≡ false → word_at words i ≡ flag_id
        → role_at taken words i ≡ role.Flag → Seen i
    stands : follows_option taken words i ≡ false → is_one_of taken.options (word_at words i) ≡ false
        → is_dashed (word_at words i) ≡ false
        → role_at taken words i ≡ role.Positional → Seen i

  seen : (i : ℕ) → is_taken (role_at taken words i) ≡ true → Seen i
  seen i fits = never (never_taken word) refl
    where
      word : Text
      word = word_at words i

      is : role_at taken words i ≡ role_of_word taken words i word
      is = role_by_word taken words i

      fit : is_taken (role_of_word taken words i word) ≡ true
      fit = subst (λ r. is_taken r ≡ true) is fits

      plain_or : never_taken word ≡ false → follows_option taken words i ≡ false
          → is_one_of taken.options word ≡ false
          → list_any (λ name. is_some (joined_value name word)) taken.options ≡ false
          → is_one_of taken.flags word ≡ false → (dashed : Bool) → is_dashed word ≡ dashed → Seen i
      plain_or e f g h n true p = absurd (let bad : false ≡ true = rw (e, f, g, h, n, p) at fit in cc)
      plain_or e f g h n false p = stands f g p (is ∙ rw (e, f, g, h, n, p) refl)

      flag_or : never_taken word ≡ false → follows_option taken words i ≡ false
          → is_one_of taken.options word ≡ false
          → list_any (λ name. is_some (joined_value name word)) taken.options ≡ false
          → (flag : Bool) → is_one_of taken.flags word ≡ flag → Seen i
      flag_or e f g h true n =
          let same = known.flags word n in
          sets (subst (λ w. is_one_of taken.flags w ≡ true) same n) f g same (is ∙ rw (e, f, g, h, n) refl)
      flag_or e f g h false n = plain_or e f g h n (is_dashed word) refl

      joined_or : never_taken word ≡ false → follows_option taken words i ≡ false
          → is_one_of taken.options word ≡ false
          → (joined : Bool) → list_any (λ name. is_some (joined_value name word)) taken.options ≡ joined → Seen i
      joined_or e f g true h =
          let which = known.joined word h in
          let parts = joined_parts (id_of which.0) word which.2 in
          joins which.0 parts.0 which.1 f g parts.2 parts.1 (is ∙ rw (e, f, g, h) refl)
      joined_or e f g false h = flag_or e f g h (is_one_of taken.flags word) refl

      name_or : never_taken word ≡ false → follows_option taken words i ≡ false
          → (named : Bool) → is_one_of taken.options word ≡ named → Seen i
      name_or e f true g = last (nat_lt (i + 1) (length words)) refl
        where
          which : (k : Named) × (word ≡ id_of k)
          which = known.named word g

          last : (inside : Bool) → nat_lt (i + 1) (length words) ≡ inside → Seen i
          last true h =
              names which.0 (subst (λ w. is_one_of taken.options w ≡ true) which.1 g) f which.1
              (grind (arith, nat_tests, h)) (is ∙ rw (e, f, g, h) refl)
          last false h = absurd (let bad : false ≡ true = rw (e, f, g, h) at fit in cc)
      name_or e f false g = joined_or e f g (list_any (λ name. is_some (joined_value name word)) taken.options) refl

      value_or : never_taken word ≡ false → (dashed : Bool) → is_dashed word ≡ dashed
          → follows_option taken words i ≡ true → Seen i
      value_or e true p f = absurd (let bad : false ≡ true = rw (e, f, p) at fit in cc)
      value_or e false p f = values f p (is ∙ rw (e, f, p) refl)

      follow_or : never_taken word ≡ false → (follows : Bool)
          → follows_option taken words i ≡ follows → Seen i
      follow_or e true f = value_or e (is_dashed word) refl f
      follow_or e false f = name_or e f (is_one_of taken.options word) refl

      never : (refused : Bool) → never_taken word ≡ refused → Seen i
      never true e = absurd (let bad : false ≡ true = rw e at fit in cc)
      never false e = follow_or e (follows_option taken words i) refl

  -- ---- what it gives

  if_value : (test : Bool) (value : Text) → option_to_list (if test then Some value else None) ≡ one_where test value
  if_value true value = refl
  if_value false value = refl

  -- a word that is no option's name is none of them
  differs : (word id : Text) → is_one_of taken.options word ≡ false → is_one_of taken.options id ≡ true
      → bytes_eq word id ≡ false
  differs word id unnamed takes = step (bytes_eq word id) refl
    where
      step : (is : Bool) → bytes_eq word id ≡ is → bytes_eq word id ≡ false
      step false e = e
      step true e =
          absurd (let bad = sym unnamed ∙ ap (is_one_of taken.options) (bytes_eq-true word id e)
          ∙ takes in let none : false ≡ true = bad in cc)

  named_value : (i : ℕ) (k j : Named) → word_at words i ≡ id_of k → i + 1 < length words
      → option_to_list (value_at words (id_of j) i) ≡ one_where (bytes_eq (id_of k) (id_of j)) (word_at words (i + 1))
  unfolding value_at
  named_value i k j is inside =
      rw (is, word_there words (i + 1) inside, no_join k j)
      (if_value (bytes_eq (id_of k) (id_of j)) (word_at words (i + 1)))

  name_gives : (i : ℕ) (k : Named) → word_at words i ≡ id_of k → i + 1 < length words
      → role_at taken words i ≡ role.OptionName → (slot : Slot)
      → gives slot i ≡ one_where (bytes_eq (id_of k) (slot_id slot)) (word_at words (i + 1))
  name_gives i k is inside role words_slot = rw (role, no_words k) refl
  name_gives i k is inside role (option_slot j) = named_value i k j is inside
  name_gives i k is inside role flag_slot = rw (is, no_flag k) refl

  -- a word that doesn't begin with `-` gives no option a value
  plain_gives : (i : ℕ) → is_dashed (word_at words i) ≡ false → (j : Named) → value_at words (id_of j) i ≡ None
  unfolding value_at
  plain_gives i plain j = let none = undashed j (word_at words i) plain in rw (none.0, none.1) refl

  value_gives : (i : ℕ) → is_dashed (word_at words i) ≡ false → role_at taken words i ≡ role.OptionValue
      → (slot : Slot) → gives slot i ≡ []
  value_gives i plain role words_slot = rw role refl
  value_gives i plain role (option_slot j) = rw (plain_gives i plain j) refl
  value_gives i plain role flag_slot = rw (undashed_flag (word_at words i) plain) refl

  word_gives : (i : ℕ) → is_dashed (word_at words i) ≡ false → role_at taken words i ≡ role.Positional
      → (slot : Slot)
      → gives slot i ≡ one_where (bytes_eq (codes "WORDS") (slot_id slot)) (word_at words i)
  word_gives i plain role words_slot = rw role refl
  word_gives i plain role (option_slot j) = rw (plain_gives i plain j, words_none j) refl
  word_gives i plain role flag_slot = rw (undashed_flag (word_at words i) plain) refl

  value_joined : (i : ℕ) (k j : Named) (value : Text) → bytes_eq (word_at words i) (id_of j) ≡ false
      → joined_value (id_of j) (word_at words i) ≡ when (bytes_eq (id_of k) (id_of j)) value
      → option_to_list (value_at words (id_of j) i) ≡ one_where (bytes_eq (id_of k) (id_of j)) value
  unfolding value_at
  value_joined i k j value unnamed alone = rw (unnamed, alone) (if_value (bytes_eq (id_of k) (id_of j)) value)

  joined_gives : (i : ℕ) (k : Named) (value : Text) → is_one_of taken.options (word_at words i) ≡ false
      → word_at words i ≡ id_of k ++ 61 ∷ value
      → joined_value (id_of k) (word_at words i) ≡ Some value → role_at taken words i ≡ role.OptionWithValue
      → (slot : Slot) → IsSlot slot
      → gives slot i ≡ one_where (bytes_eq (id_of k) (slot_id slot)) value
  joined_gives i k value unnamed is joined role words_slot slot = rw (role, no_words k) refl
  joined_gives i k value unnamed is joined role flag_slot slot = rw (is, no_flag_joined k value, no_flag k) refl
  joined_gives i k value unnamed is joined role (option_slot j) slot =
      value_joined i k j value (differs (word_at words i) (id_of j) unnamed slot)
      (subst (λ w. joined_value (id_of j) w ≡ when (bytes_eq (id_of k) (id_of j)) value) (sym is)
      (joins_alone k j value (subst (λ w. joined_value (id_of k) w ≡ Some value) is joined)))

  flag_value_none : (i : ℕ) (k : Named) → word_at words i ≡ flag_id → value_at words (id_of k) i ≡ None
  unfolding value_at
  flag_value_none i k is = rw (is, flag_none k, flag_no_join k) refl

  flag_gives : (i : ℕ) → word_at words i ≡ flag_id → role_at taken words i ≡ role.Flag → (slot : Slot)
      → gives slot i ≡ one_where (bytes_eq flag_id (slot_id slot)) flag_value
  flag_gives i is role words_slot = rw role refl
  flag_gives i is role (option_slot k) = rw (flag_value_none i k is, flag_none k) refl
  flag_gives i is role flag_slot = rw is refl

  -- ---- the walk

  abbrev walk_to : ℕ → Walk
  walk_to i = fold (walked rules []) (walk_from nothing_held) (take i words)

  walk_next : (i : ℕ) → i < length words → walk_to (i + 1) ≡ walked rules [] (walk_to i) (word_at words i)
  walk_next i lt = fold_more (walked rules []) (walk_from nothing_held) words i [] lt

  -- the rows have what the first so many words give
  abbrev HasGiven : List Row → ℕ → Type 0
  HasGiven rows i = (slot : Slot) → IsSlot slot → values_in (slot_id slot) rows ≡ joined_below i (gives slot)

  -- where the walk stands before word i: at rest, or behind the name of an option
  data Stand (i : ℕ) : Type 0 where
    rests : (pending : Option (Text × List Text)) (rows : List Row) (waiting : Waiting) → IsFree waiting
        → follows_option taken words i ≡ false
        → walk_to i ≡ between pending rows waiting → HasGiven (settled_rows rules pending rows) i → Stand i
    waits : (j : ℕ) (k : Named) (rows : List Row) → i ≡ j + 1 → i < length words → follows_option taken words i ≡ true
        → is_one_of taken.options (id_of k) ≡ true
        → walk_to i ≡ between (Some (id_of k, [])) rows (option (id_of k)) → HasGiven rows j
        → ((slot : Slot) → gives slot j ≡ one_where (bytes_eq (id_of k) (slot_id slot))
        (word_at words i)) → Stand i

  -- what follows an option's name is told by the word before
  followed : (i : ℕ) (is : Bool) → is_one_of taken.options (word_at words i) ≡ is
      → follows_option taken words (i + 1) ≡ is
  followed i is e =
      let back : i + 1 - 1 ≡ i = omega arith in let later : nat_lt 0 (i + 1) ≡ true = grind (arith, nat_tests) in rw
      (later, back) e

  more_given : (rows : List Row) (i : ℕ) (id value : Text) → HasGiven rows i
      → ((slot : Slot) → IsSlot slot → gives slot i ≡ one_where (bytes_eq id (slot_id slot)) value)
      → HasGiven (with_one id value rows) (i + 1)
  more_given rows i id value before here slot is =
      values_in-with_one id (slot_id slot) value rows ∙ ap₂ (λ (xs ys : List Text). xs ++ ys) (before slot is)
      (sym (here slot is))
      ∙ ap (λ (m : ℕ). joined_below m (gives slot)) (sym (add-one i))

  -- a word follows an option's name or it doesn't
  clash : {X : Type 0} (i : ℕ) → follows_option taken words i ≡ true → follows_option taken words i ≡ false → X
  clash i follows rest = absurd (let bad : true ≡ false = sym follows ∙ rest in cc)

  step : (i : ℕ) → i < length words → Seen i → Stand i → Stand (i + 1)
  step i lt (names k takes follows is inside role) (rests pending rows waiting free rest at given) =
      waits i k (settled_rows rules pending rows) refl inside (followed i true (rw is takes)) takes
      (walk_next i lt ∙ ap₂ (walked rules []) at is ∙ name_step rules pending rows waiting free k
      (known.by_long k takes)) given
      (name_gives i k is inside role)
  step i lt (values follows plain role) (rests pending rows waiting free rest at given) = clash i follows rest
  step i lt (joins k value takes follows unnamed is joined role) (rests pending rows waiting free rest at given) =
      rests None (with_one (id_of k) value (settled_rows rules pending rows)) idle tt (followed i false unnamed)
      (walk_next i lt ∙ ap₂ (walked rules []) at is ∙ joined_step rules pending rows waiting free k value
      (known.by_long k takes))
      (more_given (settled_rows rules pending rows) i (id_of k) value given
      (joined_gives i k value unnamed is joined role))
  step i lt (sets takes follows unnamed is role) (rests pending rows waiting free rest at given) =
      rests None (with_one flag_id flag_value (settled_rows rules pending rows)) idle tt (followed i false unnamed)
      (walk_next i lt ∙ ap₂ (walked rules []) at is ∙ flag_step rules pending rows waiting free flag_id flag_name
      flag_no_end flag_long (known.by_flag takes))
      (more_given (settled_rows rules pending rows) i flag_id flag_value given
      (λ slot is_slot. flag_gives i is role slot))
  step i lt (stands follows unnamed plain role) (rests pending rows waiting free rest at given) =
      rests (Some (codes "WORDS", word_at words i ∷ [])) (settled_rows rules pending rows) positional tt
      (followed i false unnamed)
      (walk_next i lt ∙ ap (λ w. walked rules [] w (word_at words i)) at ∙ word_step rules pending rows waiting free
      (word_at words i) plain known.words_by_index)
      (rw known.words_by_id
      (more_given (settled_rows rules pending rows) i (codes "WORDS") (word_at words i) given
      (λ slot is. word_gives i plain role slot)))
  step i lt (names k takes follows is inside role) (waits j l rows next within behind named at given last) =
      clash i behind follows
  step i lt (joins k value takes follows unnamed is joined role) (waits j l rows next within behind named at given last) =
      clash i behind follows
  step i lt (sets takes follows unnamed is role) (waits j l rows next within behind named at given last) =
      clash i behind follows
  step i lt (stands follows unnamed plain role) (waits j l rows next within behind named at given last) =
      clash i behind follows
  step i lt (values follows plain role) (waits j k rows next within follow takes at given last) =
      rests (Some (id_of k, word_at words i ∷ [])) rows idle tt
      (followed i false (no_name (is_one_of taken.options (word_at words i)) refl))
      (walk_next i lt ∙ ap (λ w. walked rules [] w (word_at words i)) at ∙ value_step rules rows k
      (word_at words i) plain (known.by_id k takes))
      (rw (known.by_id k takes) both_given)
    where
      no_name : (is : Bool) → is_one_of taken.options (word_at words i) ≡ is
          → is_one_of taken.options (word_at words i) ≡ false
      no_name false e = e
      no_name true e =
          let which = known.named (word_at words i) e in
          let same = eq-bytes_eq (word_at words i) (id_of which.0) which.1 in
          absurd (let bad : true ≡ false = sym same ∙ (undashed which.0 (word_at words i) plain).0 in cc)

      both_given : HasGiven (with_one (id_of k) (word_at words i) rows) (i + 1)
      both_given slot is =
          let here = more_given rows j (id_of k) (word_at words i) given (λ other is_other. last other) slot is in
          let none = value_gives i plain role slot in
          here ∙ ap (λ (m : ℕ). joined_below m (gives slot)) (sym next) ∙ sym (append-nil (joined_below i (gives slot)))
          ∙ ap (λ (xs : List Text). joined_below i (gives slot) ++ xs) (sym none) ∙ ap
          (λ (m : ℕ). joined_below m (gives slot)) (sym (add-one i))

  module _ (fits : all_below (length words) (λ i. is_taken (role_at taken words i)) ≡ true) where
    stand : (i : ℕ) → i ≤ length words → Stand i
    stand zero within = rests None [] idle tt refl refl (λ slot is. refl)
    stand (suc i) within =
        let lt : i < length words = omega (arith, within) in
        subst Stand (add-one i)
        (step i lt (seen i (all_below-at (length words) (λ k. is_taken (role_at taken words k)) fits i lt))
        (stand i (omega (arith, within))))

    end : (n : ℕ) → n ≡ length words → Stand n → (slot : Slot) → IsSlot slot
        → values_in (slot_id slot) (rows_after rules [] words) ≡ joined_below n (gives slot)
    end n all (rests pending rows waiting free rest at given) slot is =
        let whole = ap (fold (walked rules []) (walk_from nothing_held)) (sym (take_all n words (omega (arith, all))))
        ∙ at in
        ap (λ (w : Walk). values_in (slot_id slot) (finished rules w.held)) whole
        ∙ ap (values_in (slot_id slot)) (unfilled rules known.no_defaults (settled_rows rules pending rows))
        ∙ given slot is
    end n all (waits j k rows next within follow takes at given last) slot is = absurd (omega (arith, all, within))

    -- what is found of each id is what the words give
    pub all_found : (slot : Slot) → IsSlot slot
        → values_in (slot_id slot) (rows_after rules [] words) ≡ joined_below (length words) (gives slot)
    all_found slot is = end (length words) refl (stand (length words) (le_refl (length words))) slot is

    pub words_found : values_in (codes "WORDS") (rows_after rules [] words) ≡ positional_words taken words
    words_found =
        all_found words_slot tt ∙ joined_below-picks (length words) (λ i. is_positional (role_at taken words i))
        (word_at words)

    pub option_found : (k : Named) → is_one_of taken.options (id_of k) ≡ true
        → first_of (id_of k) (rows_after rules [] words) ≡ option_value words (id_of k)
    option_found k takes =
        first_of-values_in (id_of k) (rows_after rules [] words) ∙ ap (λ (xs : List Text). slice_get xs 0)
        (all_found (option_slot k) takes)
        ∙ first-joined_below (length words) (value_at words (id_of k))

    pub flag_found : is_some (first_of flag_id (rows_after rules [] words)) ≡ has_flag words flag_id
    flag_found =
        ap is_some (first_of-values_in flag_id (rows_after rules [] words))
        ∙ ap (λ (xs : List Text). is_some (slice_get xs 0)) (all_found flag_slot tt)
        ∙ some-joined_below (length words) (λ i. bytes_eq (word_at words i) flag_id) flag_value
