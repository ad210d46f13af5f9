-- Drawn numbers, one after another.
use Rattle.std.specs.Prelude.{ℕ, ◌+◌, ◌%◌}
use Rattle.feed_rows.specs.GeneratedFeed.{next_number, offset, hop}
use Rattle.feed_maker.specs.declared.draws.Pace.{Pace}

-- the number that is drawn after this one
unfoldable pub number_after : ℕ → ℕ
number_after number = next_number number

-- the pace that is drawn after this number
unfoldable pub pace_after : ℕ → Pace
pace_after number =
    record { offset = number_after number % 10; hop = 60 + number_after (number_after number) % 120 }

-- the pace of route i
unfoldable pub pace_of : ℕ → ℕ → Pace
pace_of seed i = record { offset = offset seed i; hop = hop seed i }
