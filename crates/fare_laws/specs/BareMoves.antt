-- Moves that say only what they take.
use Rattle.std.specs.Prelude.{false, Option, None, pos, option_map, option_and_then}
use Rattle.feed_rows.specs.declared.fares.ChangeChoice.{ChangeChoice}
use Rattle.feed_rows.specs.declared.fares.LegChoice.{LegChoice}
use Rattle.feed_rows.specs.declared.states.Move.{Move}

-- a move that takes these rows, before it says what follows
abbrev pub bare : LegChoice → Option ChangeChoice → Move
bare pick place =
    record {
      state = record { group = None; count = 0; departure = None; arrival = None; first = false };
      paid = record { 0 = pos 0 };
      held = record { 0 = pos 0 };
      rule = pick.rule;
      product = pick.product;
      xfer = option_map (λ c. c.rule) place;
      xfer_product = option_and_then (λ c. c.product) place;
    }
