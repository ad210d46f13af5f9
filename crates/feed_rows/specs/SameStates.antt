-- When states of fares are the same, as a test.
use Rattle.std.specs.Prelude.{◌==◌, ◌&&◌, Bool, Option}
use Rattle.std.specs.Bool.{beq}
use Rattle.std.specs.Option.{option_eq}
use Rattle.std.specs.Ordering.{int_eq}
use Rattle.transit_base.specs.declared.moments.Moment.{Moment}
use Rattle.transit_base.specs.declared.numbers.LegGroupId.{LegGroupId}
use Rattle.feed_rows.specs.declared.states.FareState.{FareState}

-- both groups are there and equal, or neither is there
abbrev pub equal_group : Option LegGroupId → Option LegGroupId → Bool
equal_group = option_eq (λ (g : LegGroupId) (h : LegGroupId). g.0 == h.0)

-- the same of moments
abbrev pub equal_moment : Option Moment → Option Moment → Bool
equal_moment = option_eq (λ (m : Moment) (n : Moment). int_eq m.0 n.0)

-- each part of the states is the same
unfoldable pub same_parts : FareState → FareState → Bool
same_parts a b =
    equal_group a.group b.group
    && (a.count == b.count)
    && equal_moment a.departure b.departure
    && equal_moment a.arrival b.arrival
    && beq a.first b.first
