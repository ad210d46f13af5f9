-- Named stop times by their rows: to come before another, and to be of one trip, by numbers.
use Rattle.std.proofs.Common.{◌≡◌, refl, sym, ◌∙◌, ap, subst, ℕ, ◌<◌, Bool, true, List, length, arith}
use Rattle.std.specs.Prelude.{◌==◌, ◌&&◌, ◌||◌, nat_lt, bytes_eq, is_some, Option, None, Some}
use Rattle.std.specs.Option.{option_or}
use Rattle.std.proofs.lemmas.Bool.{and_parts, and_from, eqb-true, eq-eqb}
use Rattle.std.proofs.lemmas.Bool.Decides.{nat_tests}
use Rattle.plain_laws.specs.Plain.{at_and}
use Rattle.plain_laws.proofs.Laws.{at_and-list_below, bytes_eq-true, eq-bytes_eq}
use Rattle.feed_faults.specs.StopTimeRelations.{StopTime, has_time, both_and, same_place, comes_before}
use Rattle.stop_order.specs.declared.times.TripTime.{TripTime}
use Rattle.transit_base.specs.declared.numbers.TripId.{TripId}
use Rattle.stop_order.specs.Numbered.{numbered_at, named_time, named_times, is_one_trip, IsOneTrip, is_timed}
use Rattle.stop_order.specs.Order.{trip_at, Before}

-- two trips are one where they are equal
pub one_told : (a b : Option TripId) → is_one_trip a b ≡ true → a ≡ b
one_told None None e = refl
one_told None (Some y) e = absurd (cc)
one_told (Some x) None e = absurd (cc)
one_told (Some x) (Some y) e = ap (λ n. Some (trip_of n)) (eqb-true x.0 y.0 e)
  where
    trip_of : ℕ → TripId
    trip_of n = record { 0 = n }

pub one_hit : (a b : Option TripId) → a ≡ b → is_one_trip a b ≡ true
one_hit a b e = subst (λ x. is_one_trip a x ≡ true) e (itself a)
  where
    itself : (x : Option TripId) → is_one_trip x x ≡ true
    itself None = refl
    itself (Some x) = eq-eqb x.0 x.0 refl

before_told : (s t a b : ℕ) → (nat_lt s t || ((s == t) && nat_lt a b)) ≡ true → Before s t a b
before_told s t a b e = grind (arith, nat_tests, e)

before_hit : (s t a b : ℕ) → Before s t a b → (nat_lt s t || ((s == t) && nat_lt a b)) ≡ true
before_hit s t a b e = grind (arith, nat_tests, e)

-- there is a first time where there is either
some_time : (arrival departure : Option ℕ) → is_some arrival || is_some departure ≡ is_some (option_or arrival departure)
some_time None departure = refl
some_time (Some time) departure = refl

module _ (times : List TripTime) (text : ℕ → List ℕ) where
  -- a row's trip, and its sequence
  abbrev pub trip : ℕ → Option TripId
  trip row = trip_at times row

  abbrev pub sequence : ℕ → ℕ
  sequence row = (numbered_at times row).sequence

  -- two rows of the file, tested
  both : (a b : ℕ) (test : StopTime → StopTime → Bool) → a < length times → b < length times → both_and (named_times times text) a b test ≡ test (named_time times text a) (named_time times text b)
  both a b test la lb =
      at_and-list_below (length times) (named_time times text) a (λ x. at_and (named_times times text) b (λ y. test x y)) la
      ∙ at_and-list_below (length times) (named_time times text) b (λ y. test (named_time times text a) y) lb

  pub timed_alike : (a : ℕ) → has_time (named_time times text a) ≡ is_timed (numbered_at times a)
  timed_alike a = some_time (numbered_at times a).arrival (numbered_at times a).departure

  pub timed : (a : ℕ) → a < length times → at_and (named_times times text) a has_time ≡ is_timed (numbered_at times a)
  timed a lt = at_and-list_below (length times) (named_time times text) a has_time lt ∙ timed_alike a

  module _ (row : ℕ) (within : row < length times) (one : IsOneTrip times text row) where
    -- a row of the trip has its text
    of_trip : (a : ℕ) → a < length times → trip a ≡ trip row → text a ≡ text row
    of_trip a la e = bytes_eq-true (text a) (text row) (one a la ∙ one_hit (trip a) (trip row) e)

    -- two rows have one text, of which one is of the trip by its number
    pub text_from : (a b : ℕ) → a < length times → b < length times → trip a ≡ trip row → trip b ≡ trip row → bytes_eq (text a) (text b) ≡ true
    text_from a b la lb ea eb = eq-bytes_eq (text a) (text b) (of_trip a la ea ∙ sym (of_trip b lb eb))

    pub trip_from_first : (a b : ℕ) → a < length times → b < length times → trip a ≡ trip row → bytes_eq (text a) (text b) ≡ true → trip b ≡ trip row
    trip_from_first a b la lb ea e = one_told (trip b) (trip row) (sym (one b lb) ∙ eq-bytes_eq (text b) (text row) (sym (bytes_eq-true (text a) (text b) e) ∙ of_trip a la ea))

    pub trip_from_last : (a b : ℕ) → a < length times → b < length times → trip b ≡ trip row → bytes_eq (text a) (text b) ≡ true → trip a ≡ trip row
    trip_from_last a b la lb eb e = one_told (trip a) (trip row) (sym (one a la) ∙ eq-bytes_eq (text a) (text row) (bytes_eq-true (text a) (text b) e ∙ of_trip b lb eb))

    -- a row comes before another, both of the trip
    pub comes_hit : (a b : ℕ) → a < length times → b < length times → trip a ≡ trip row → trip b ≡ trip row → Before (sequence a) (sequence b) a b → comes_before (named_times times text) a b ≡ true
    unfolding comes_before
    comes_hit a b la lb ea eb is =
        both a b (λ x y. bytes_eq x.trip y.trip && (nat_lt x.sequence y.sequence || ((x.sequence == y.sequence) && nat_lt a b))) la lb
        ∙ and_from (bytes_eq (text a) (text b)) (nat_lt (sequence a) (sequence b) || ((sequence a == sequence b) && nat_lt a b)) (text_from a b la lb ea eb) (before_hit (sequence a) (sequence b) a b is)

    parts : (a b : ℕ) → a < length times → b < length times → comes_before (named_times times text) a b ≡ true → (bytes_eq (text a) (text b) ≡ true) × Before (sequence a) (sequence b) a b
    unfolding comes_before
    parts a b la lb e =
        let is = sym (both a b (λ x y. bytes_eq x.trip y.trip && (nat_lt x.sequence y.sequence || ((x.sequence == y.sequence) && nat_lt a b))) la lb) ∙ e in
        let two = and_parts (bytes_eq (text a) (text b)) (nat_lt (sequence a) (sequence b) || ((sequence a == sequence b) && nat_lt a b)) is in
        (two.0, before_told (sequence a) (sequence b) a b two.1)

    -- what comes before a row of the trip, or after it, is of the trip
    pub comes_told_last : (a b : ℕ) → a < length times → b < length times → trip b ≡ trip row → comes_before (named_times times text) a b ≡ true → (trip a ≡ trip row) × Before (sequence a) (sequence b) a b
    comes_told_last a b la lb eb e = let two = parts a b la lb e in (trip_from_last a b la lb eb two.0, two.1)

    pub comes_told_first : (a b : ℕ) → a < length times → b < length times → trip a ≡ trip row → comes_before (named_times times text) a b ≡ true → (trip b ≡ trip row) × Before (sequence a) (sequence b) a b
    comes_told_first a b la lb ea e = let two = parts a b la lb e in (trip_from_first a b la lb ea two.0, two.1)

    -- a row has the trip's place of another
    pub same_hit : (a b : ℕ) → a < length times → b < length times → trip a ≡ trip row → trip b ≡ trip row → sequence a ≡ sequence b → same_place (named_times times text) a b ≡ true
    unfolding same_place
    same_hit a b la lb ea eb is =
        both a b (λ x y. bytes_eq x.trip y.trip && (x.sequence == y.sequence)) la lb
        ∙ and_from (bytes_eq (text a) (text b)) (sequence a == sequence b) (text_from a b la lb ea eb) (eq-eqb (sequence a) (sequence b) is)

    pub same_told : (a b : ℕ) → a < length times → b < length times → trip a ≡ trip row → same_place (named_times times text) a b ≡ true → (trip b ≡ trip row) × (sequence a ≡ sequence b)
    unfolding same_place
    same_told a b la lb ea e =
        let is = sym (both a b (λ x y. bytes_eq x.trip y.trip && (x.sequence == y.sequence)) la lb) ∙ e in
        let two = and_parts (bytes_eq (text a) (text b)) (sequence a == sequence b) is in
        (trip_from_first a b la lb ea two.0, eqb-true (sequence a) (sequence b) two.1)
