-- What rows have, by the numbers that their fields tell.
use Rattle.std.proofs.Common.{◌≡◌, refl, ◌≤◌, ◌<◌, ◌^◌, List, ℕ, arith}
use Rattle.std.specs.Prelude.{pos, Option, Some, None, option_map, unwrap_or}
use Rattle.std.specs.Option.{ForSome}
use Rattle.feed_faults.specs.FieldGrammars.{int_value, count_value, currency_decimals}
use Rattle.feed_faults.specs.FieldValues.{nat_of, int_or_zero}
use Rattle.feed_faults.specs.AcceptedFeed.{finite_count}
use Rattle.feed_soundness.proofs.ValueLaws.{int_small, count_good, currency_good}
use Rattle.feed_text.proofs.ValueLaws.{int_is_short, natural_is, times}

-- an integer
pub int_is : (least most : ℕ) (text : List ℕ)
    → nat_of (int_value (pos least) (pos most) text) ≡ int_or_zero least most text
unfolding int_or_zero
int_is least most text = refl

-- a number of changes
pub count_fits : (text : List ℕ) → ForSome (finite_count (count_value text)) (λ n. n < 2 ^ 32)
count_fits text n e = let le = (count_good text n e).1 in omega (arith, le)

-- the decimals of a currency
few_decimals : (text : List ℕ) → ForSome (currency_decimals text) (λ n. n ≤ 3)
few_decimals text n e = let is = rw e at (currency_good text (rw e refl)).decimals in grind (arith, is)

pub decimals_fit : (text : List ℕ) → ForSome (finite_count (option_map pos (currency_decimals text))) (λ n. n < 2 ^ 32)
decimals_fit text n e =
    let le = few_decimals text n (rw (natural_is (currency_decimals text)) at e) in omega (arith, le)

pub decimals_at_most : (text : List ℕ) → unwrap_or (currency_decimals text) 2 ≤ 3
decimals_at_most text = step (currency_decimals text) (few_decimals text)
  where
    step : (o : Option ℕ) → ForSome o (λ n. n ≤ 3) → unwrap_or o 2 ≤ 3
    step None few = grind arith
    step (Some n) few = few n refl

-- the values of rows, and the decimals of the currency
pub ruleset values = (int_is, int_small, int_is_short, times, count_fits)

pub ruleset decimals = (natural_is, decimals_fit, decimals_at_most)
