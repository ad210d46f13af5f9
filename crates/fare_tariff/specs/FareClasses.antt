-- States of fares, as keys.
use Rattle.std.specs.Prelude.{◌≡◌, ℕ, Bool, true, List, ◌++◌, Option, Some, None, ℤ, pos}
use Rattle.std.proofs.Common.{ap}
use Rattle.std.specs.Bool.{Decides}
use Rattle.std.specs.Cmp.{IsEquivalence, decided}
use Rattle.std.specs.Hash as fed
use Rattle.std.proofs.lemmas.Bool.Decides.{Decides-like}
use Rattle.transit_base.specs.declared.moments.Moment.{Moment}
use Rattle.transit_base.specs.declared.numbers.LegGroupId.{LegGroupId}
use Rattle.feed_rows.specs.declared.states.FareState.{FareState}
use Rattle.feed_rows.specs.SameStates.{same_parts}
use Rattle.feed_laws.proofs.SameStates.{same_parts_decides}
use Rattle.fare_tariff.specs.declared.fare_class.FareClass.{FareClass}

-- that of the state
abbrev pub class_by : FareState → FareClass
class_by state = record { state = state }

-- each part of the states is the same
abbrev pub same_class : FareClass → FareClass → Bool
same_class a b = same_parts a.state b.state

-- numbers of a group and of a moment, for a hash
unfoldable pub group_number : Option LegGroupId → ℕ
group_number (Some g) = g.0
group_number None = 0

unfoldable pub moment_number : Option Moment → ℤ
moment_number (Some m) = m.0
moment_number None = pos 0

-- what a hash reads of a class
abbrev pub class_input : FareClass → List (List ℕ)
class_input class =
    fed.u32 (group_number class.state.group)
    ++ (fed.u32 class.state.count
    ++ (fed.i64 (moment_number class.state.departure) ++ fed.i64 (moment_number class.state.arrival)))

-- ---- their laws

same_class_decides : (a b : FareClass) → Decides (same_class a b) (a ≡ b)
same_class_decides a b =
    Decides-like (same_class a b) (λ (same : a.state ≡ b.state). ap class_by same)
    (λ same. ap (λ (c : FareClass). c.state) same) (same_parts_decides a.state b.state)

pub same_class-equal : (a b : FareClass) → same_class a b ≡ true → a ≡ b
same_class-equal a b = (same_class_decides a b).0

pub class_equivalence : IsEquivalence same_class
class_equivalence = decided same_class same_class_decides

-- a hash reads the same of the same class
pub class_input-same : (a b : FareClass) → same_class a b ≡ true → class_input a ≡ class_input b
class_input-same a b h = ap class_input (same_class-equal a b h)
