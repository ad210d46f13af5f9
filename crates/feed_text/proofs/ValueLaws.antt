-- Values of fields by the numbers that they tell.
use Rattle.std.proofs.Common.{◌≡◌, refl, ℕ, ◌≤◌, ◌<◌, ◌^◌, ◌⊎◌, inl, inr, true, false, List, Option, Some, None, arith}
use Rattle.std.specs.Prelude.{◌&&◌, ℤ, pos, negsuc, int_le, option_map, unwrap_or}
use Rattle.std.specs.Option.{ForSome}
use Rattle.std.proofs.lemmas.Bool.{cases_Bool, and_parts}
use Rattle.std.proofs.lemmas.Bool.Decides.{nat_tests}
use Rattle.std.proofs.lemmas.Option.{same_Some, none-some}
use Rattle.feed_faults.specs.FieldGrammars.{int_value, if_between, signed_value}
use Rattle.feed_rows.specs.Numerals.{number_value}
use Rattle.feed_rows.specs.TimeGrammar.{time_value}
use Rattle.feed_faults.proofs.TimeLaws.{time_good}
use Rattle.transit_base.specs.Limits.{most_time}
use Rattle.feed_faults.specs.FieldValues.{time_or}
use Rattle.feed_faults.specs.AcceptedFeed.{finite_count}
use Rattle.feed_text.specs.FieldNumbers.{IsShort}

-- a value between two is one of them or between
between : (least most z : ℤ) (o : Option ℤ) → if_between least most o ≡ Some z → (int_le least z && int_le z most) ≡ true
between least most z None e = absurd (none-some z e)
between least most z (Some y) e = step (cases_Bool (int_le least y && int_le y most))
  where
    step : ((int_le least y && int_le y most) ≡ true) ⊎ ((int_le least y && int_le y most) ≡ false) → (int_le least z && int_le z most) ≡ true
    step (inr no') = absurd (let is : None ≡ Some z = rw no' at e in none-some z is)
    step (inl yes') = let is : Some y ≡ Some z = rw yes' at e in let same : y ≡ z = same_Some y z is in rw (← same) yes'

-- an integer from least to most is a number up to it
nat_between : (least most : ℕ) (text : List ℕ) (z : ℤ) → int_value (pos least) (pos most) text ≡ Some z → (n : ℕ) × (z ≡ pos n) × (n ≤ most)
unfolding int_value
nat_between least most text z e = number z (between (pos least) (pos most) z (signed_value number_value text) e)
  where
    number : (y : ℤ) → (int_le (pos least) y && int_le y (pos most)) ≡ true → (n : ℕ) × (y ≡ pos n) × (n ≤ most)
    number (pos n) is = (n, refl, small n ((and_parts (int_le (pos least) (pos n)) (int_le (pos n) (pos most)) is).1))
      where
        small : (m : ℕ) → int_le (pos m) (pos most) ≡ true → m ≤ most
        small m e = grind (arith, nat_tests)
    number (negsuc n) is = absurd (cc)

-- an integer is short where the greatest is
pub int_is_short : (least most : ℕ) (text : List ℕ) → most ≤ 2147483647 → IsShort (int_value (pos least) (pos most) text)
int_is_short least most text le = step (int_value (pos least) (pos most) text) refl
  where
    step : (o : Option ℤ) → int_value (pos least) (pos most) text ≡ o → IsShort o
    step None e = tt
    step (Some z) e =
        let is = nat_between least most text z e in
        let same = is.1 in
        let small = is.2 in
        rw same (grind arith, grind (arith, small, le))

-- a number from 0 on
pub natural_is : (o : Option ℕ) → finite_count (option_map pos o) ≡ o
natural_is None = refl
natural_is (Some n) = refl

-- a time, or another in its place
pub time_is : (other most : ℕ) (text : List ℕ) → unwrap_or (time_value most text) other ≡ time_or other most text
unfolding time_or
time_is other most text = refl

pub time_fits : (most : ℕ) (text : List ℕ) → most < 2 ^ 32
    → ForSome (finite_count (option_map pos (time_value most text))) (λ n. n < 2 ^ 32)
time_fits most text lt n e =
    let le = time_good most text n (rw (natural_is (time_value most text)) at e) in omega (arith, le, lt)

pub time_is_few : (text : List ℕ) → ForSome (finite_count (option_map pos (time_value most_time text))) (λ n. n ≤ most_time)
time_is_few text n e = time_good most_time text n (rw (natural_is (time_value most_time text)) at e)

-- the seconds of a row's times
pub ruleset times = (natural_is, time_is, time_fits, time_is_few)
