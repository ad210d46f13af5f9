-- What the words of a plan ask for.
use Rattle.std.proofs.Common.{◌≡◌, ◌≤◌, ◌⊎◌, inl, inr, ◌<◌, ℕ, suc, get_or, Bool, true, false, List, [], ◌∷◌, Option, Some, None, refl, sym, ap, subst, ◌∙◌, ◌^◌, length, arith, w64, to_z, of_z}
use Rattle.std.specs.Prelude.{Result, Ok, Err, ok_or, option_map, ℤ, pos, int_le, nat_le, ◌&&◌, codes, if◌then◌else◌}
use Rattle.std.proofs.lemmas.Bool.Decides.{nat_tests}
use Rattle.std.proofs.lemmas.Int.{ints, to_z-of_z}
use Rattle.plain_laws.specs.Plain.{when}
use Rattle.transit_base.specs.Moments.{moment_at}
use Rattle.commands.specs.CommandWords.{word_at, option_value, has_flag}
use Rattle.commands.specs.Commands.{last_day, read_audit, read_plan}
use Rattle.feed_rows.specs.Limits.{usual_window, most_window}
use Rattle.feed_rows.specs.Numerals.{number_value, within}
use Rattle.commands.specs.Requests.{Request, Question}
use Rattle.commands.specs.UsageFaults.{unless_fault}
use Rattle.feed_rows.specs.WordValues.{word_number, word_date, word_time, option_number}
use Rattle.commands.specs.declared.usage.UsageFault.{UsageFault}
use Rattle.commands.specs.declared.usage.UsageFault.TheVariants as usage
use Rattle.feed_faults.specs.FieldGrammars.{int_value, is_negative, if_between}

-- a value that is there, and one that isn't
given : {X Y : Type 0} (o : Option X) (x : X) (fault : UsageFault) (next : X → Result Y UsageFault) → Some x ≡ o → unless_fault (ok_or o fault) next ≡ next x
given o x fault next is = subst (λ p. unless_fault (ok_or p fault) next ≡ next x) is refl

missing : {X Y : Type 0} (o : Option X) (fault : UsageFault) (next : X → Result Y UsageFault) → None ≡ o → unless_fault (ok_or o fault) next ≡ Err fault
missing o fault next is = subst (λ p. unless_fault (ok_or p fault) next ≡ Err fault) is refl

module _ (named words : List (List ℕ)) where
  abbrev rides_word : Option ℕ
  rides_word = option_number 4 0 8 (option_value words (codes "--rides"))

  abbrev window_word : Option ℕ
  window_word = option_number usual_window 1 most_window (option_value words (codes "--within"))

  -- what is read behind the date, the time, the rides and the window
  abbrev behind_window : ℤ → ℕ → ℕ → ℕ → Result Request UsageFault
  behind_window day seconds rides window =
      Ok (Request.Asks (Question.Plan (record {
        from = word_at named 0;
        to = word_at named 1;
        departure = moment_at day (pos seconds);
        rides = rides;
        rider = option_value words (codes "--rider");
        window = window;
        stats = has_flag words (codes "--stats");
      })))

  abbrev behind_rides : ℤ → ℕ → ℕ → Result Request UsageFault
  behind_rides day seconds rides = unless_fault (ok_or window_word usage.BadWindow) (behind_window day seconds rides)

  abbrev behind_time : ℤ → ℕ → Result Request UsageFault
  behind_time day seconds = unless_fault (ok_or rides_word usage.BadRides) (behind_rides day seconds)

  abbrev behind_date : ℤ → Result Request UsageFault
  behind_date day = unless_fault (ok_or (word_time (word_at named 3)) usage.BadTime) (behind_time day)

  pub bad_date : None ≡ word_date (word_at named 2) → read_plan named words ≡ Err usage.BadDate
  bad_date date = missing (word_date (word_at named 2)) usage.BadDate behind_date date

  pub bad_time : (day : ℤ) → Some day ≡ word_date (word_at named 2) → None ≡ word_time (word_at named 3) → read_plan named words ≡ Err usage.BadTime
  bad_time day date time = given (word_date (word_at named 2)) day usage.BadDate behind_date date ∙ missing (word_time (word_at named 3)) usage.BadTime (behind_time day) time

  to_rides : (day : ℤ) (seconds : ℕ) → Some day ≡ word_date (word_at named 2) → Some seconds ≡ word_time (word_at named 3) → read_plan named words ≡ behind_time day seconds
  to_rides day seconds date time = given (word_date (word_at named 2)) day usage.BadDate behind_date date ∙ given (word_time (word_at named 3)) seconds usage.BadTime (behind_time day) time

  pub bad_rides : (day : ℤ) (seconds : ℕ) → Some day ≡ word_date (word_at named 2) → Some seconds ≡ word_time (word_at named 3) → None ≡ rides_word → read_plan named words ≡ Err usage.BadRides
  bad_rides day seconds date time rides_is = to_rides day seconds date time ∙ missing rides_word usage.BadRides (behind_rides day seconds) rides_is

  pub bad_window : (day : ℤ) (seconds rides : ℕ) → Some day ≡ word_date (word_at named 2) → Some seconds ≡ word_time (word_at named 3) → Some rides ≡ rides_word → None ≡ window_word
      → read_plan named words ≡ Err usage.BadWindow
  bad_window day seconds rides date time rides_is window_is =
      to_rides day seconds date time ∙ given rides_word rides usage.BadRides (behind_rides day seconds) rides_is ∙ missing window_word usage.BadWindow (behind_window day seconds rides) window_is

  pub plan_read : (day departure : ℤ) (seconds rides window : ℕ) (from to : List ℕ) (rider : Option (List ℕ))
      (stats : Bool) → Some day ≡ word_date (word_at named 2) → Some seconds ≡ word_time (word_at named 3)
      → Some rides ≡ rides_word → Some window ≡ window_word → from ≡ word_at named 0 → to ≡ word_at named 1 → departure ≡ moment_at day (pos seconds)
      → rider ≡ option_value words (codes "--rider") → stats ≡ has_flag words (codes "--stats")
      → Ok (Request.Asks (Question.Plan (record { from = from; to = to; departure = departure; rides = rides; rider = rider; window = window; stats = stats }))) ≡ read_plan named words
  plan_read day departure seconds rides window from to rider stats date time rides_is window_is from_is to_is at rider_is stats_is =
      let read = to_rides day seconds date time ∙ given rides_word rides usage.BadRides (behind_rides day seconds) rides_is ∙ given window_word window usage.BadWindow (behind_window day seconds rides) window_is in
      let ok : Request → Result Request UsageFault = λ request. Ok request in
      let same : ok (Request.Asks (Question.Plan
      (record { from = from; to = to; departure = departure; rides = rides; rider = rider; window = window; stats = stats }))) ≡ behind_window day seconds rides window = rw (from_is, to_is, at, rider_is, stats_is) refl in
      same ∙ sym read

module _ (named words : List (List ℕ)) where
  -- what is read behind the two days
  abbrev behind_last : ℤ → ℤ → Result Request UsageFault
  behind_last first last = Ok (Request.Asks (Question.Audit (record { first = first; last = last; rider = option_value words (codes "--rider") })))

  abbrev behind_first : ℤ → Result Request UsageFault
  behind_first first = unless_fault (ok_or (last_day first (word_at named 1)) usage.BadLast) (behind_last first)

  pub bad_first : None ≡ word_date (word_at named 0) → read_audit named words ≡ Err usage.BadFirst
  bad_first date = missing (word_date (word_at named 0)) usage.BadFirst behind_first date

  pub bad_last : (first : ℤ) → Some first ≡ word_date (word_at named 0) → None ≡ last_day first (word_at named 1) → read_audit named words ≡ Err usage.BadLast
  bad_last first date past = given (word_date (word_at named 0)) first usage.BadFirst behind_first date ∙ missing (last_day first (word_at named 1)) usage.BadLast (behind_last first) past

  pub audit_read : (first last : ℤ) (rider : Option (List ℕ)) → Some first ≡ word_date (word_at named 0) → Some last ≡ last_day first (word_at named 1) → rider ≡ option_value words (codes "--rider")
      → Ok (Request.Asks (Question.Audit (record { first = first; last = last; rider = rider }))) ≡ read_audit named words
  audit_read first last rider date near rider_is =
      let read = given (word_date (word_at named 0)) first usage.BadFirst behind_first date ∙ given (last_day first (word_at named 1)) last usage.BadLast (behind_last first) near in
      let ok : Option (List ℕ) → Result Request UsageFault = λ r. Ok (Request.Asks (Question.Audit (record { first = first; last = last; rider = r }))) in
      ap ok rider_is ∙ sym read

-- a number of words, as an integer without sign
abbrev pub IsNumber : ℕ → ℕ → List ℕ → Type 0
IsNumber least most text =
    ((int_value (pos least) (pos most) text ≡ None) × (within least most (number_value text) ≡ None))
    ⊎ ((n : ℕ) × (int_value (pos least) (pos most) text ≡ Some (pos n)) × (within least most (number_value text) ≡ Some n) × (n ≤ most) × (least ≤ n))

limits : (least most n : ℕ) → (int_le (pos least) (pos n) && int_le (pos n) (pos most)) ≡ (nat_le least n && nat_le n most)
limits least most n = refl

is_number : (least most : ℕ) (text : List ℕ) → is_negative text ≡ false → IsNumber least most text
unfolding int_value
is_number least most text unsigned = rw unsigned (step (number_value text))
  where
    step : (value : Option ℕ)
        → ((if_between (pos least) (pos most) (option_map pos value) ≡ None) × (within least most value ≡ None))
        ⊎ ((n : ℕ) × (if_between (pos least) (pos most) (option_map pos value) ≡ Some (pos n)) × (within least most value ≡ Some n) × (n ≤ most) × (least ≤ n))
    step None = inl (refl, refl)
    step (Some n) = test (nat_le least n && nat_le n most) refl
      where
        test : (is : Bool) → (nat_le least n && nat_le n most) ≡ is
            → ((when (int_le (pos least) (pos n) && int_le (pos n) (pos most)) (pos n) ≡ None) × (when (nat_le least n && nat_le n most) n ≡ None))
            ⊎ ((k : ℕ) × (when (int_le (pos least) (pos n) && int_le (pos n) (pos most)) (pos n) ≡ Some (pos k)) × (when (nat_le least n && nat_le n most) n ≡ Some k) × (k ≤ most) × (least ≤ k))
        test true e = inr (n, rw (limits least most n, e) refl, rw e refl, at_most, at_least)
          where
            at_most : n ≤ most
            at_most = grind (arith, nat_tests)

            at_least : least ≤ n
            at_least = grind (arith, nat_tests)
        test false e = inl (rw (limits least most n, e) refl, rw e refl)

-- a word of few digits
short : (text : List ℕ) → length text ≤ 10 → word_number text ≡ number_value text
short text few = let is : nat_le (length text) 10 ≡ true = grind (arith, nat_tests) in rw is refl

pub number_missing : (least most : ℕ) (text : List ℕ) → is_negative text ≡ false → length text ≤ 10 → int_value (pos least) (pos most) text ≡ None → None ≡ within least most (word_number text)
number_missing least most text unsigned few none = step (is_number least most text unsigned)
  where
    step : IsNumber least most text → None ≡ within least most (word_number text)
    step (inl is) = rw (short text few) (sym is.1)
    step (inr is) = let e = sym none ∙ is.1 in absurd (cc)

pub record IsNumberOf (least most : ℕ) (text : List ℕ) (value : ℤ) : Type 0 where
  pub number : ℕ
  pub is : value ≡ pos number
  pub read : Some number ≡ within least most (word_number text)
  pub high : number ≤ most
  pub low : least ≤ number

pub number_found : (least most : ℕ) (text : List ℕ) (value : ℤ) → is_negative text ≡ false → length text ≤ 10 → int_value (pos least) (pos most) text ≡ Some value → IsNumberOf least most text value
number_found least most text value unsigned few found = step (is_number least most text unsigned)
  where
    step : IsNumber least most text → IsNumberOf least most text value
    step (inl is) = let e = sym found ∙ is.0 in absurd (cc)
    step (inr is) =
        let e = sym found ∙ is.1 in
        let same : value ≡ pos is.0 = cc in
        record { number = is.0; is = same; read = rw (short text few) (sym is.2); high = is.3; low = is.4 }

-- words that are no numbers
pub no_number : (least most : ℕ) (text : List ℕ) → (length text ≡ 0) ⊎ ((10 < length text) ⊎ (get_or text 0 0 ≡ 45)) → None ≡ within least most (word_number text)
unfolding number_value
no_number least most [] (inl empty) = refl
no_number least most (byte ∷ text) (inl empty) = absurd (omega arith)
no_number least most text (inr (inl long)) = let is : nat_le (length text) 10 ≡ false = grind (arith, nat_tests) in rw is refl
no_number least most [] (inr (inr dash)) = refl
no_number least most (byte ∷ text) (inr (inr dash)) = let is : byte ≡ 45 = dash in rw is (step (nat_le (suc (length text)) 10))
  where
    step : (few : Bool) → None ≡ within least most (if few then None else None)
    step true = refl
    step false = refl

-- a number of 32 bits, as a signed one of 64
pub wide : (n : ℕ) (z : ℤ) → n < 2 ^ 32 → z ≡ pos n → to_z w64 (of_z w64 z) ≡ pos n
wide n z small is = rw is (to_z-of_z w64 (pos n) (grind (arith, ints, small)))
