-- Where a number stands between two others, in thousandths.
use Rattle.std.specs.Prelude.{ℕ, ◌-◌, ◌*◌, ◌/◌, ◌||◌, nat_lt, if◌then◌else◌, List, fold, ℤ, pos, negsuc, ◌-ℤ◌, int_le, int_lt, unsigned_abs}
use Rattle.answer_page.specs.declared.scale.Scale.{Scale}

-- that of no numbers
abbrev pub narrowest : Scale
narrowest = record { start = pos 9_223_372_036_854_775_807; end = negsuc 9_223_372_036_854_775_807 }

-- a scale, and two numbers more
abbrev pub widened : Scale → ℤ → ℤ → Scale
widened scale low high =
    record {
      start = if int_lt low scale.start then low else scale.start;
      end = if int_lt scale.end high then high else scale.end;
    }

-- so many thousandths, or all of them
abbrev pub at_most_all : ℕ → ℕ
at_most_all share = if nat_lt share 1000 then share else 1000

-- how many thousandths of the scale lie below a number: none at its start and before it, and all at its end and past it
unfoldable pub share_of : Scale → ℤ → ℕ
share_of scale at =
    if int_le at scale.start || int_le scale.end scale.start then 0
    else at_most_all (unsigned_abs (at -ℤ scale.start) * 1000 / unsigned_abs (scale.end -ℤ scale.start))

-- how many lie above it
abbrev pub rest_of : Scale → ℤ → ℕ
rest_of scale at = 1000 - share_of scale at

-- how many lie between two numbers
abbrev pub width_of : Scale → ℤ → ℤ → ℕ
width_of scale from to = share_of scale to - share_of scale from

-- from the least of what items begin with to the greatest of what they end with
abbrev pub spread : {X : Type 0} → (X → ℤ) → (X → ℤ) → List X → Scale
spread low high xs = fold (λ scale x. widened scale (low x) (high x)) narrowest xs
