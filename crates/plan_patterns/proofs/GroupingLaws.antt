-- Runs by patterns, as callers see them.
use Rattle.std.proofs.Common.{◌≡◌, refl, sym, ◌∙◌, ap, subst, ℕ, zero, suc, ◌<◌, Bool, true, false, List, [], ◌∷◌, length, get_or, arith, map, Contains, All, AllPairs}
use Rattle.std.specs.Prelude.{◌≢◌, ◌&&◌, ◌==◌, Some, slice_get, ℤ, int_le}
use Rattle.std.specs.List.Sorted.{IsPermutation}
use Rattle.std.proofs.lemmas.Bool.Decides.{nat_tests}
use Rattle.std.proofs.lemmas.Bool.{and_from}
use mathlib.Core.Bool.{true≢false}
use Rattle.std.proofs.lemmas.List.Elements.{All-map, All-weaker}
use Rattle.std.proofs.lemmas.List.Folds.{flat_map-map}
use Rattle.std.proofs.lemmas.List.Sorted.{All-permutation, Contains-permutation}
use Rattle.transit_base.specs.declared.numbers.TripId.{TripId}
use Rattle.feed_rows.specs.FeedRows.{FeedRows}
use Rattle.plan_patterns.specs.declared.span.Span.{Span}
use Rattle.plain_laws.specs.Plain.{int_same}
use Rattle.plain_laws.proofs.Laws.{AllPairs-cons, AllPairs-head, AllPairs-tail, eq-int_same}
use Rattle.plan_patterns.specs.declared.pattern.Pattern.{Pattern}
use Rattle.plan_patterns.specs.declared.runs.Run.{Run}
use Rattle.plan_patterns.specs.Columns.{IsPattern, IsRunAt}
use Rattle.plan_patterns.specs.Cuts.{AreCut}
use Rattle.plan_patterns.specs.Grouping.{ArePatterns, HasHalts, PatternOf, all_runs, pattern_of, halts_by_pattern}
use Rattle.plan_patterns.specs.Runs.{AreHeld, IsHeldOf, IsKnown, same_run}
use Rattle.plan_patterns.specs.Servings.{halts_in}
use Rattle.plan_patterns.proofs.ColumnLaws.{apart_moved}

-- what relates patterns relates them without their columns
pair_of_patterns : (R : PatternOf → PatternOf → Type 0) (patterns : List Pattern) → AllPairs (λ (p q : Pattern). R (pattern_of p) (pattern_of q)) patterns → AllPairs R (map pattern_of patterns)
pair_of_patterns R [] all = λ i j d lt within. absurd (omega arith)
pair_of_patterns R (p ∷ ps) all =
    AllPairs-cons R (pattern_of p) (map pattern_of ps)
    (All-map (R (pattern_of p)) pattern_of ps (AllPairs-head (λ (a b : Pattern). R (pattern_of a) (pattern_of b)) p ps all))
    (pair_of_patterns R ps (AllPairs-tail (λ (a b : Pattern). R (pattern_of a) (pattern_of b)) p ps all))

pub same_halts : (patterns : List Pattern) → halts_by_pattern (map pattern_of patterns) ≡ halts_in patterns
same_halts [] = refl
same_halts (p ∷ ps) = ap (λ rs. p.halts.items ∷ rs) (same_halts ps)

-- a pattern by its number
pub pattern_at : (patterns : List Pattern) (k : ℕ) (d : Pattern) → k < length patterns → slice_get (map pattern_of patterns) k ≡ Some (pattern_of (get_or patterns k d))
pattern_at [] k d lt = absurd (omega arith)
pattern_at (p ∷ ps) zero d lt = refl
pattern_at (p ∷ ps) (suc k) d lt = pattern_at ps k d (omega arith)

-- runs that are told apart differ
same_flips : (a b : Run) → same_run a b ≡ same_run b a
same_flips a b = ap (λ t. t && int_same a.day.0 b.day.0 && int_same a.shift b.shift) (turned a.trip.0 b.trip.0)
    ∙ ap (λ d. (b.trip.0 == a.trip.0) && d && int_same a.shift b.shift) (back a.day.0 b.day.0)
    ∙ ap (λ z. (b.trip.0 == a.trip.0) && int_same b.day.0 a.day.0 && z) (back a.shift b.shift)
  where
    turned : (x y : ℕ) → (x == y) ≡ (y == x)
    turned x y = grind (arith, nat_tests)

    and_flips : (x y : Bool) → (x && y) ≡ (y && x)
    and_flips true true = refl
    and_flips true false = refl
    and_flips false true = refl
    and_flips false false = refl

    back : (x y : ℤ) → int_same x y ≡ int_same y x
    back x y = and_flips (int_le x y) (int_le y x)

differ : (a b : Run) → same_run a b ≡ false → a ≢ b
differ a b e same =
    let own : same_run b b ≡ true = and_from _ _ (and_from _ _ (equal b.trip.0) (eq-int_same b.day.0 b.day.0 refl)) (eq-int_same b.shift b.shift refl) in
    true≢false (sym own ∙ sym (ap (λ r. same_run r b) same) ∙ e)
  where
    equal : (x : ℕ) → (x == x) ≡ true
    equal x = grind (arith, nat_tests)

-- the held runs by patterns
pub grouped : (feed : FeedRows) (span : Span) (trips : List TripId) (held runs : List Run) (patterns : List Pattern) → AreHeld feed span trips held → IsPermutation held runs → AreCut feed runs patterns → ArePatterns feed span trips (map pattern_of patterns)
grouped feed span trips held runs patterns are moved cut = record {
  halts = All-map (λ (p : PatternOf). All (HasHalts feed p.halts) p.runs) pattern_of patterns
      (All-weaker (IsPattern feed) (λ (p : Pattern). All (HasHalts feed p.halts.items) p.runs.items)
      (λ p is. All-weaker (IsRunAt feed p.halts.items) (HasHalts feed p.halts.items) (λ run at. at.calls) p.runs.items is.runs) patterns cut.built);
  apart = pair_of_patterns (λ (p q : PatternOf). p.halts ≢ q.halts) patterns cut.apart;
  held = λ run is. subst (λ rs. Contains rs run) all (Contains-permutation held runs run moved (are.all run is));
  right = subst (All (IsHeldOf feed span trips)) all (All-permutation (IsHeldOf feed span trips) held runs moved are.right);
  known = subst (All (IsKnown feed)) all (All-permutation (IsKnown feed) held runs moved are.known);
  once = subst (AllPairs (λ (a b : Run). a ≢ b)) all
      (λ i j d lt within. differ (get_or runs i d) (get_or runs j d) (apart_moved same_run same_flips held runs moved are.once i j d lt within));
}
  where
    all : runs ≡ all_runs (map pattern_of patterns)
    all = sym cut.all ∙ sym (flat_map-map (λ (p : PatternOf). p.runs) pattern_of patterns)
