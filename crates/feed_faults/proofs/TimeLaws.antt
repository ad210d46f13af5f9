-- Times that are read.
use Rattle.std.proofs.Common.{ℕ, ◌+◌, ◌-◌, ◌≤◌, Bool, true, false, List, length, take, drop, Option, Some, None, arith}
use Rattle.std.specs.Prelude.{◌==◌, ◌&&◌, nat_le, if◌then◌else◌, slice_index, slice_range}
use Rattle.std.specs.Option.{ForSome}
use Rattle.std.proofs.lemmas.Bool.{leb-true}
use Rattle.std.proofs.lemmas.Option.{none-some, cond_some}
use Rattle.feed_rows.specs.Numerals.{number_value, when_at_most}
use Rattle.feed_rows.specs.TimeGrammar.{time_with_colon, time_value, clock_seconds}

at_most_good : (most : ℕ) (o : Option ℕ) → ForSome (when_at_most most o) (λ n. n ≤ most)
at_most_good most None n e = absurd (none-some n e)
at_most_good most (Some k) n e = let both = cond_some (nat_le k most) k n e in let le = leb-true k most both.0 in let is = both.1 in omega arith

-- what a test lets through
if_good : (b : Bool) (o : Option ℕ) (most : ℕ) → ForSome o (λ n. n ≤ most) → ForSome (if b then o else None) (λ n. n ≤ most)
if_good true o most good n e = good n e
if_good false o most good n e = absurd (none-some n e)

-- a time that is read is at most the greatest
pub time_good : (most : ℕ) (text : List ℕ) → ForSome (time_value most text) (λ s. s ≤ most)
unfolding time_value
time_good most text =
    let colon = length text - 6 in
    let clock = clock_seconds (when_at_most 167 (number_value (take colon text))) (when_at_most 59 (number_value (slice_range text (colon + 1) (colon + 3)))) (when_at_most 59 (number_value (drop (colon + 4) text))) in
    if_good (nat_le 7 (length text) && nat_le (length text) 9) (time_with_colon colon most text) most
    (if_good ((slice_index text colon == 58) && (slice_index text (colon + 3) == 58)) (when_at_most most clock) most (at_most_good most clock))
