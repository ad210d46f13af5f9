-- States of fares that test as the same are the same.
use Rattle.std.proofs.Common.{◌≡◌, refl, ap, ℕ, ℤ, Bool, Option}
use Rattle.std.specs.Bool.{Decides}
use Rattle.transit_base.specs.declared.moments.Moment.{Moment}
use Rattle.transit_base.specs.declared.numbers.LegGroupId.{LegGroupId}
use Rattle.feed_rows.specs.declared.states.FareState.{FareState}
use Rattle.feed_rows.specs.SameStates.{same_parts}
use Rattle.plain_laws.proofs.Decisions.{Test, both, int_equals, is, likewise, same_field, same_flag, same_option}

abbrev equal_group : (o p : Option LegGroupId) → Test (o ≡ p)
equal_group o p = same_field (λ (g : LegGroupId). g.0) (λ g h e. ap (λ n. record { 0 = n }) e) o p

abbrev moment_is : (m n : Moment) → Test (m ≡ n)
moment_is m n = likewise (int_equals m.0 n.0) (ap (λ (k : ℤ). record { 0 = k })) (ap (λ (k : Moment). k.0))

abbrev equal_moment : (o p : Option Moment) → Test (o ≡ p)
equal_moment o p = same_option moment_is o p

state_of : Option LegGroupId → ℕ → Option Moment → Option Moment → Bool → FareState
state_of group count departure arrival first =
    record { group = group; count = count; departure = departure; arrival = arrival; first = first }

state_equal : (g h : Option LegGroupId) (c k : ℕ) (d e a b : Option Moment) (f l : Bool) → g ≡ h → c ≡ k → d ≡ e → a ≡ b → f ≡ l →
    state_of g c d a f ≡ state_of h k e b l
state_equal g h c k d e a b f l p q r s t = rw (p, q, r, s, t) refl

pub same_parts_decides : (a b : FareState) → Decides (same_parts a b) (a ≡ b)
unfolding same_parts state_of
same_parts_decides a b =
    let test : Test (a ≡ b) =
    likewise
    (both (both (both (both (equal_group a.group b.group) (is a.count b.count)) (equal_moment a.departure b.departure))
    (equal_moment a.arrival b.arrival)) (same_flag a.first b.first))
    (λ all.
    state_equal a.group b.group a.count b.count a.departure b.departure a.arrival b.arrival a.first b.first
    all.0.0.0.0 all.0.0.0.1 all.0.0.1 all.0.1 all.1)
    (λ same. (
      (
        ((ap (λ (s : FareState). s.group) same, ap (λ (s : FareState). s.count) same), ap (λ (s : FareState). s.departure) same),
        ap (λ (s : FareState). s.arrival) same,
      ),
      ap (λ (s : FareState). s.first) same,
    )) in
    test.decides
