-- Words that name rides.
use Rattle.std.proofs.Common.{◌≡◌, ◌⊎◌, inl, inr, ℕ, ◌+◌, ◌<◌, ◌≤◌, Bool, true, List, [], length, slice_get, get_or, Option, Some, None, refl, sym, subst, ◌∙◌, ap, arith, add-one}
use Rattle.std.specs.Prelude.{if◌then◌else◌, is_none, nat_le, option_map, option_and_then, unwrap_or, Ok, Err}
use Rattle.std.proofs.lemmas.Bool.Decides.{nat_tests}
use Rattle.plain_laws.specs.Plain.{collect_below, find_below, last_below}
use Rattle.std.proofs.lemmas.Option.{slice_get_cases}
use Rattle.plain_laws.proofs.Laws.{IsFirst, IsCollected, find_below_tells, find_below_some, collect_below_some, collect_below_tells}
use Rattle.commands.specs.CommandWords.{CommandForm, word_at, positional_words, fits_form}
use Rattle.commands.specs.NumberedItems.{read_at, read_each}
use Rattle.feed_rows.specs.RideWords.{RideWord, ride_word}
use Rattle.commands.specs.declared.usage.UsageFault.{UsageFault}
use Rattle.plan_words.specs.Rides.{rides_named}
use Rattle.plan_words.proofs.OptionLaws.{both}
use Rattle.plan_words.proofs.WordLaws.{word_there}

-- the last place that passes, one place further on
pub last_below_next : (i : ℕ) (test : ℕ → Bool) → last_below (i + 1) test ≡ (if test i then Some i else last_below i test)
last_below_next i test = rw (add-one i) refl

-- what a word that is there reads as
unread : (texts : List (List ℕ)) (i : ℕ) → i < length texts → is_none (read_at ride_word texts i) ≡ is_none (ride_word (word_at texts i))
unread texts i lt = rw (word_there texts i lt) refl

is_none-map : {X Y : Type 0} (f : X → Y) (o : Option X) → is_none (option_map f o) ≡ is_none o
is_none-map f None = refl
is_none-map f (Some x) = refl

pub unread_at : {X : Type 0} (f : X → RideWord) (texts : List (List ℕ)) (i : ℕ) (o : Option X) → i < length texts → option_map f o ≡ ride_word (word_at texts i)
    → is_none (read_at ride_word texts i) ≡ is_none o
unread_at f texts i o lt is = unread texts i lt ∙ ap is_none (sym is) ∙ is_none-map f o

-- what is read where none is unread, and otherwise
module _ {X : Type 0} (f : ℕ → Option X) (n : ℕ) where
  some_or : (i : ℕ) (o : Option X) → f i ≡ o → (is_none (f i) ≡ true → (x : X) × (f i ≡ Some x)) → (x : X) × (f i ≡ Some x)
  some_or i None e none = none (rw e refl)
  some_or i (Some x) e none = (x, e)

  none_is : (o : Option X) → is_none o ≡ true → o ≡ None
  none_is None e = refl
  none_is (Some x) e = absurd (cc)

  none-some : (x : X) → None ≡ Some x → ⊥
  none-some x e = cc

  pub all_read : find_below n (λ i. is_none (f i)) ≡ None → (xs : List X) × (collect_below n f ≡ Some xs)
  all_read none = collect_below_some n f (λ i lt. some_or i (f i) refl (λ here. absurd (let found = find_below_some (λ k. is_none (f k)) n i lt here in let e = sym none ∙ found.1 in cc)))

  pub one_unread : (i : ℕ) → find_below n (λ k. is_none (f k)) ≡ Some i → collect_below n f ≡ None
  one_unread i found = step (collect_below n f) refl
    where
      first : IsFirst (λ k. is_none (f k)) n i
      first = find_below_tells (λ k. is_none (f k)) n i found

      step : (o : Option (List X)) → collect_below n f ≡ o → collect_below n f ≡ None
      step None e = e
      step (Some xs) e = absurd (full xs (collect_below_tells n f xs e) (slice_get_cases xs i).1)
        where
          full : (ys : List X) → IsCollected n f ys → ((x : X) × (i < length ys) × (slice_get ys i ≡ Some x) × (get_or ys i x ≡ x)) ⊎ ((length ys ≤ i) × (slice_get ys i ≡ None)) → ⊥
          full ys tells (inl there) =
              let at = tells.items i first.within in
              let missing = none_is (f i) first.passes in
              none-some there.0 (sym missing ∙ sym at ∙ there.2)
          full ys tells (inr past) = let long = tells.length_is in let within = first.within in omega (arith, long, within, past.0)

-- the words read one by one, in which none is unread
pub record AreRead (fault : ℕ → UsageFault) (texts : List (List ℕ)) : Type 0 where
  pub all : Ok (rides_named texts) ≡ read_each ride_word fault texts
  pub long : length (rides_named texts) ≡ length texts

pub are_read : (fault : ℕ → UsageFault) (texts : List (List ℕ)) → find_below (length texts) (λ i. is_none (read_at ride_word texts i)) ≡ None → AreRead fault texts
are_read fault texts none =
    let read = all_read (read_at ride_word texts) (length texts) none in
    let tells = collect_below_tells (length texts) (read_at ride_word texts) read.0 read.1 in
    record { all = rw read.1 refl; long = rw read.1 tells.length_is }

-- the first that is unread
pub ride_unread : (fault : ℕ → UsageFault) (texts : List (List ℕ)) (i : ℕ) → find_below (length texts) (λ k. is_none (read_at ride_word texts k)) ≡ Some i
    → read_each ride_word fault texts ≡ Err (fault (i + 1))
ride_unread fault texts i found = rw (one_unread (read_at ride_word texts) (length texts) i found, found) refl

pub unread_within : (texts : List (List ℕ)) (i : ℕ) → find_below (length texts) (λ k. is_none (read_at ride_word texts k)) ≡ Some i → i < length texts
unread_within texts i found = let first = find_below_tells (λ k. is_none (read_at ride_word texts k)) (length texts) i found in first.within

-- there are no more rides than words
pub ride_within : (texts : List (List ℕ)) (k : ℕ) → k < length (rides_named texts) → k < length texts
ride_within texts k lt = step (collect_below (length texts) (read_at ride_word texts)) refl lt
  where
    step : (o : Option (List RideWord)) → collect_below (length texts) (read_at ride_word texts) ≡ o → k < length (unwrap_or o []) → k < length texts
    step None e inside = absurd (omega (arith, inside))
    step (Some xs) e inside =
        let tells = collect_below_tells (length texts) (read_at ride_word texts) xs e in
        let long = tells.length_is in
        omega (arith, long, inside)

-- a ride is what its word reads as
pub ride_there : (texts : List (List ℕ)) (k : ℕ) → k < length (rides_named texts) → slice_get (rides_named texts) k ≡ ride_word (word_at texts k)
ride_there texts k lt = step (collect_below (length texts) (read_at ride_word texts)) refl
  where
    step : (o : Option (List RideWord)) → collect_below (length texts) (read_at ride_word texts) ≡ o → slice_get (rides_named texts) k ≡ ride_word (word_at texts k)
    step None e = absurd (let short : k < 0 = subst (λ (o : Option (List RideWord)). k < length (unwrap_or o [])) e lt in omega (arith, short))
    step (Some xs) e =
        let tells = collect_below_tells (length texts) (read_at ride_word texts) xs e in
        let long = tells.length_is in
        let inside : k < length xs = subst (λ (o : Option (List RideWord)). k < length (unwrap_or o [])) e lt in
        let within : k < length texts = omega (arith, long, inside) in
        subst (λ (o : Option (List RideWord)). slice_get (unwrap_or o []) k ≡ ride_word (word_at texts k)) (sym e) (tells.items k within ∙ ap (option_and_then ride_word) (word_there texts k within))

pub no_ride : (texts : List (List ℕ)) (k : ℕ) → k < length (rides_named texts) → None ≡ ride_word (word_at texts k) → ⊥
no_ride texts k lt none = step (slice_get_cases (rides_named texts) k).1
  where
    step : ((x : RideWord) × (k < length (rides_named texts)) × (slice_get (rides_named texts) k ≡ Some x) × (get_or (rides_named texts) k x ≡ x)) ⊎ ((length (rides_named texts) ≤ k) × (slice_get (rides_named texts) k ≡ None)) → ⊥
    step (inl there) = let e : None ≡ Some there.0 = none ∙ sym (ride_there texts k lt) ∙ there.2 in cc
    step (inr past) = omega (arith, lt, past.0)

-- as many words as the command takes
pub record AreAsMany (form : CommandForm) (words : List (List ℕ)) : Type 0 where
  pub fewest : form.fewest ≤ length (positional_words form words)
  pub most : length (positional_words form words) ≤ form.most

pub as_many : (form : CommandForm) (words : List (List ℕ)) → fits_form form words ≡ true → AreAsMany form words
unfolding fits_form
as_many form words fits =
    let outer = both _ (nat_le (length (positional_words form words)) form.most) fits in
    let inner = both _ (nat_le form.fewest (length (positional_words form words))) outer.0 in
    let fewest = inner.1 in
    let most = outer.1 in
    record { fewest = grind (arith, nat_tests, fewest); most = grind (arith, nat_tests, most) }
