-- What the rows of commands and options say of words, as bodies ask it.
use Rattle.std.proofs.Common.{◌≡◌, refl, sym, ◌∙◌, ap, ℕ, zero, suc, ◌+◌, ◌⊎◌, inl, inr, Bool, true, false, ◌&&◌, ◌||◌, List, [], ◌∷◌, ◌++◌, length, map, filter}
use Rattle.std.specs.Prelude.{nat_le, not, is_some, bytes_eq, count_by, if◌then◌else◌}
use Rattle.std.specs.List.{list_any, list_all}
use Rattle.std.proofs.lemmas.List.{length-append}
use Rattle.std.proofs.lemmas.List.Sums.{sum_by_push}
use Rattle.plain_laws.specs.Plain.{all_below, list_below, picks_below}
use Rattle.plain_laws.proofs.Laws.{list_any-filter, list_any-map}
use Rattle.commands.specs.CommandWords.{CommandForm, fits_form, is_one_of, is_positional, is_single_flag, is_single_option, is_taken, joined_value, positional_words, role_at, word_at}
use Rattle.commands.specs.declared.usage.WordRole.{WordRole}
use Rattle.plan_words.specs.Words.{roles_below}
use Rattle.commands.specs.Table.{has_value, option_text}
use Rattle.commands.specs.declared.table.CommandOption.{CommandOption}

-- one of the names of those that pass
any_name : (test : List ℕ → Bool) (picks : CommandOption → Bool) (os : List CommandOption) →
    list_any (λ o. picks o && test (option_text o)) os ≡ list_any test (map option_text (filter picks os))
any_name test picks os = sym (list_any-map test option_text (filter picks os) ∙ list_any-filter (λ o. test (option_text o)) picks os)

pub names_option : (word : List ℕ) (os : List CommandOption) →
    list_any (λ o. has_value o && bytes_eq word (option_text o)) os ≡ is_one_of (map option_text (filter has_value os)) word
names_option word os = any_name (λ name. bytes_eq word name) has_value os

pub joins_option : (word : List ℕ) (os : List CommandOption) →
    list_any (λ o. has_value o && is_some (joined_value (option_text o) word)) os ≡ list_any (λ option. is_some (joined_value option word)) (map option_text (filter has_value os))
joins_option word os = any_name (λ name. is_some (joined_value name word)) has_value os

pub names_flag : (word : List ℕ) (os : List CommandOption) →
    list_any (λ o. not (has_value o) && bytes_eq word (option_text o)) os ≡ is_one_of (map option_text (filter (λ o. not (has_value o)) os)) word
names_flag word os = any_name (λ name. bytes_eq word name) (λ o. not (has_value o)) os

-- each of the names of those that pass
all_names : (test : List ℕ → Bool) (picks : CommandOption → Bool) (os : List CommandOption) →
    list_all (λ o. not (picks o) || test (option_text o)) os ≡ list_all test (map option_text (filter picks os))
all_names test picks [] = refl
all_names test picks (o ∷ os) = step (picks o) refl (all_names test picks os)
  where
    step : (here : Bool) → picks o ≡ here → list_all (λ o. not (picks o) || test (option_text o)) os ≡ list_all test (map option_text (filter picks os)) →
        list_all (λ o. not (picks o) || test (option_text o)) (o ∷ os) ≡ list_all test (map option_text (filter picks (o ∷ os)))
    step true e rest = rw (e, rest) refl
    step false e rest = rw (e, rest) refl

pub single_options : (test : List ℕ → Bool) (os : List CommandOption) →
    list_all (λ o. not (has_value o) || test (option_text o)) os ≡ list_all test (map option_text (filter has_value os))
single_options test os = all_names test has_value os

pub single_flags : (test : List ℕ → Bool) (os : List CommandOption) →
    list_all (λ o. has_value o || test (option_text o)) os ≡ list_all test (map option_text (filter (λ o. not (has_value o)) os))
single_flags test os = same os ∙ all_names test (λ o. not (has_value o)) os
  where
    twice : (b c : Bool) → (b || c) ≡ (not (not b) || c)
    twice true c = refl
    twice false c = refl

    same : (os : List CommandOption) → list_all (λ o. has_value o || test (option_text o)) os ≡ list_all (λ o. not (not (has_value o)) || test (option_text o)) os
    same [] = refl
    same (o ∷ os) = rw (twice (has_value o) (test (option_text o)), same os) refl

module _ {X : Type 0} (test : X → Bool) where
  all_pushed : (xs : List X) (x : X) → list_all test (xs ++ x ∷ []) ≡ (list_all test xs && test x)
  all_pushed [] x = step (test x)
    where
      step : (b : Bool) → (b && true) ≡ (true && b)
      step true = refl
      step false = refl
  all_pushed (y ∷ ys) x = rw (all_pushed ys x) (step (test y) (list_all test ys) (test x))
    where
      step : (a b c : Bool) → (a && (b && c)) ≡ ((a && b) && c)
      step true b c = refl
      step false b c = refl

  -- a test of each of the first n
  pub all_listed : (n : ℕ) (f : ℕ → X) → list_all test (list_below n f) ≡ all_below n (λ i. test (f i))
  all_listed zero f = refl
  all_listed (suc n) f = all_pushed (list_below n f) (f n) ∙ ap (λ b. b && test (f n)) (all_listed n f)

  -- and how many pass it
  pub count_listed : {Y : Type 0} (n : ℕ) (f : ℕ → X) (word : ℕ → Y) → count_by test (list_below n f) ≡ length (picks_below n (λ i. test (f i)) word)
  count_listed zero f word = refl
  count_listed (suc n) f word = sum_by_push (λ x. if test x then 1 else 0) (list_below n f) (f n) ∙ ap (λ c. c + (if test (f n) then 1 else 0)) (count_listed n f word) ∙ sym (one (test (f n)))
    where
      one : (here : Bool) → length (picks_below n (λ i. test (f i)) word ++ (if here then word n ∷ [] else [])) ≡ length (picks_below n (λ i. test (f i)) word) + (if here then 1 else 0)
      one true = length-append (picks_below n (λ i. test (f i)) word) (word n ∷ [])
      one false = length-append (picks_below n (λ i. test (f i)) word) []

-- what the roles of all words tell
pub roles_taken : (form : CommandForm) (words : List (List ℕ)) (roles : List WordRole) → roles ≡ roles_below form words (length words) →
    list_all is_taken roles ≡ all_below (length words) (λ i. is_taken (role_at form words i))
roles_taken form words roles are = ap (list_all is_taken) are ∙ all_listed is_taken (length words) (role_at form words)

pub roles_counted : (form : CommandForm) (words : List (List ℕ)) (roles : List WordRole) → roles ≡ roles_below form words (length words) →
    count_by is_positional roles ≡ length (positional_words form words)
roles_counted form words roles are = ap (count_by is_positional) are ∙ count_listed is_positional (length words) (role_at form words) (word_at words)

-- three tests before two others
fails : (a b c d e : Bool) → (a ≡ false) ⊎ ((b ≡ false) ⊎ (c ≡ false)) → false ≡ (a && b && c && d && e)
fails a b c d e (inl first) = rw first refl
fails a b c d e (inr (inl second)) = rw second (none a)
  where
    none : (a : Bool) → false ≡ (a && false && c && d && e)
    none true = refl
    none false = refl
fails a b c d e (inr (inr third)) = rw third (none a b)
  where
    none : (a b : Bool) → false ≡ (a && b && false && d && e)
    none true true = refl
    none true false = refl
    none false b = refl

holds : (a b c d e : Bool) → a ≡ true → b ≡ true → c ≡ true → (d && e) ≡ (a && b && c && d && e)
holds a b c d e first second third = rw (first, second, third) refl

-- words that don't fit, and words that fit where they are as many as the command takes
pub fit_none : (form : CommandForm) (words : List (List ℕ)) → (all_below (length words) (λ i. is_taken (role_at form words i)) ≡ false)
    ⊎ ((list_all (is_single_option words) form.options ≡ false) ⊎ (list_all (is_single_flag words) form.flags ≡ false)) → false ≡ fits_form form words
unfolding fits_form
fit_none form words why = fails _ _ _ _ _ why

pub fit_so : (form : CommandForm) (words : List (List ℕ)) (count : ℕ) → all_below (length words) (λ i. is_taken (role_at form words i)) ≡ true
    → list_all (is_single_option words) form.options ≡ true → list_all (is_single_flag words) form.flags ≡ true → count ≡ length (positional_words form words)
    → (nat_le form.fewest count && nat_le count form.most) ≡ fits_form form words
unfolding fits_form
fit_so form words count taken options flags many = rw many (holds _ _ _ _ _ taken options flags)
