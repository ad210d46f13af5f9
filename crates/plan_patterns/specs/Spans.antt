-- Stretches of time in which rides are looked for.
use Rattle.std.specs.Prelude.{ℕ, ℤ, pos, negsuc, nat_abs, ◌+ℤ◌, ◌-ℤ◌, ◌≤ℤ◌}
use Rattle.plan_patterns.specs.declared.span.Span.{Span}

-- the greatest length of a span in seconds, four days: the greatest window of a query, three days, behind a range of
-- departures of one day
abbrev pub most_span : ℕ
most_span = 345_600

-- the span begins in the years 1900 to 3000, ends no earlier than it begins, and is at most so long
pub record IsUsualSpan (span : Span) : Type 0 where
  pub early : negsuc 2_208_988_799 ≤ℤ span.from.0
  pub late : span.from.0 ≤ℤ pos 32_504_284_800
  pub forward : span.from.0 ≤ℤ span.until.0
  pub few : span.until.0 ≤ℤ (span.from.0 +ℤ pos most_span)

-- its length in seconds
abbrev pub seconds_of : Span → ℕ
seconds_of span = nat_abs (span.until.0 -ℤ span.from.0)
