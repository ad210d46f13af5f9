-- Columns of departures, in order.
use Rattle.std.proofs.Common.{◌≡◌, sym, ◌∙◌, ap, subst, ℕ, ◌+◌, ◌-◌, ◌<◌, ◌≤◌, ◌^◌, ◌⊎◌, inl, inr, ⊎_elim, Bool, true, false, List, [], ◌∷◌, ◌++◌, length, get_or, arith, ℤ, ◌≤ℤ◌, ◌<ℤ◌, int_lt, drop, map, take, Contains, All, AllPairs}
use Rattle.std.specs.Prelude.{◌≢◌, ◌==◌, Some, slice_get}
use Rattle.std.specs.List.Sorted.{IsPermutation, IsSortedByKey, IsPartitionedBy}
use Rattle.std.specs.Cmp.{int_cmp_total}
use Rattle.std.specs.Ordering.{int_cmp, is_lt}
use Rattle.std.proofs.lemmas.Bool.{cases_lt}
use Rattle.std.proofs.lemmas.Bool.Decides.{nat_tests}
use Rattle.std.proofs.lemmas.Int.{ints}
use Rattle.std.proofs.lemmas.List.{get_or-drop, get_or_append_left, get_or_push, length-drop, length-map, length_push, map_more, take_all}
use Rattle.std.proofs.lemmas.List.Elements.{All-drop, All-push, All-weaker}
use Rattle.std.proofs.lemmas.List.Sorted.{All-permutation, Contains-permutation, ranks_by, sorted_far}
use Rattle.std.proofs.lemmas.Map.Keys.{IsDistinct-IsPermutation, apart_from_distinct, IsDistinct-from_apart}
use Rattle.std.proofs.lemmas.Option.{get_or_from_slice_get, same_Some, slice_get_within}
use Rattle.plain_laws.proofs.Laws.{All-drop_within, All-slice_get, slice_get-old_item, slice_get-new_item}
use Rattle.transit_base.specs.Limits.{most_time}
use Rattle.feed_rows.specs.Calls.{calls_of}
use Rattle.feed_rows.specs.FeedRows.{FeedRows}
use Rattle.feed_rows.specs.declared.journeys.Call.{Call}
use Rattle.plan_patterns.specs.declared.halts.Halt.{Halt}
use Rattle.plan_patterns.specs.declared.pattern.Boarding.{Boarding}
use Rattle.plan_patterns.specs.declared.pattern.Pattern.{Pattern}
use Rattle.plan_patterns.specs.declared.runs.Run.{Run}
use Rattle.plan_patterns.specs.Columns.{AreBoardable, AreColumns, AreFirst, AreInOrder, CallsAtAll, IsBoarding, IsColumn, IsPattern, IsRunAt, IsSince}
use Rattle.plan_patterns.specs.Halts.{halt_of}
use Rattle.plan_patterns.specs.Runs.{AreTimed, moment_of}

-- items that a test tells apart are so in any order
pub apart_moved : {X : Type 0} (same : X → X → Bool) → ((a b : X) → same a b ≡ same b a) → (xs ys : List X) → IsPermutation xs ys →
    AllPairs (λ a b. same a b ≡ false) xs → AllPairs (λ a b. same a b ≡ false) ys
apart_moved same flips xs ys moved apart =
    let distinct = IsDistinct-IsPermutation same flips xs ys moved (IsDistinct-from_apart same xs apart) in
    λ i j d lt within. apart_from_distinct same ys i j d distinct lt within

-- what is sorted by its moments is in their order
pub in_order : (column : List Boarding) → IsSortedByKey (λ (b : Boarding). b.at.0) int_cmp column → AreInOrder column
in_order column sorted i j d lt within =
    not_less (get_or column j d).at.0 (get_or column i d).at.0
    (sorted_far (λ (a : Boarding) (b : Boarding). is_lt (int_cmp a.at.0 b.at.0)) (ranks_by int_cmp_total (λ (b : Boarding). b.at.0)) column sorted i j d (omega arith) within)
  where
    not_less : (x y : ℤ) → is_lt (int_cmp x y) ≡ false → y ≤ℤ x
    not_less x y e = grind (arith, ints)

-- departures with one run and one moment are one
same_boarding : (a b : Boarding) → a.run ≡ b.run → a.at.0 ≡ b.at.0 → a ≡ b
same_boarding a b run at =
    ap (λ n. the n a.at.0) run ∙ ap (λ z. the b.run z) at
  where
    the : ℕ → ℤ → Boarding
    the n z = record { run = n; at = record { 0 = z } }

-- a run departs once from a position
one_departure : (feed : FeedRows) (runs : List Run) (position : ℕ) (a b : Boarding) → IsBoarding feed runs position a → IsBoarding feed runs position b → a.run ≡ b.run → a ≡ b
one_departure feed runs position a b one other same =
    let run : one.run ≡ other.run = same_Some _ _ (sym one.run_is ∙ ap (slice_get runs) same ∙ other.run_is) in
    let call : one.call ≡ other.call = same_Some _ _ (sym one.call_is ∙ ap (λ (r : Run). slice_get (calls_of feed r.trip) position) run ∙ other.call_is) in
    same_boarding a b same (one.at ∙ ap (λ (r : Run). moment_of r one.call.departure) run ∙ ap (λ (c : Call). moment_of other.run c.departure) call ∙ sym other.at)

-- the runs by their numbers are apart
first_apart : (feed : FeedRows) (runs : List Run) (position n : ℕ) (boardings : List Boarding) → AreFirst feed runs position n boardings → AllPairs (λ (a b : Boarding). (a.run == b.run) ≡ false) boardings
first_apart feed runs position n boardings first i j d lt within =
    let many = first.many in
    let one = first.numbered i d (omega arith) in
    let other = first.numbered j d (omega arith) in
    differ (get_or boardings i d).run (get_or boardings j d).run (omega arith)
  where
    differ : (x y : ℕ) → x < y → (x == y) ≡ false
    differ x y lt = grind (arith, nat_tests)

-- one run more
pub first_more : (feed : FeedRows) (runs : List Run) (position n : ℕ) (boardings new : List Boarding) (boarding : Boarding) →
    AreFirst feed runs position n boardings → IsBoarding feed runs position boarding → boarding.run ≡ n → new ≡ boardings ++ boarding ∷ [] → AreFirst feed runs position (n + 1) new
first_more feed runs position n boardings new boarding before is number pushed =
    subst (AreFirst feed runs position (n + 1)) (sym pushed) (record {
      many = length_push boardings boarding ∙ ap (λ k. k + 1) before.many;
      right = All-push (IsBoarding feed runs position) boardings boarding before.right is;
      numbered = λ k d lt. step k d lt (cases_lt k n);
    })
  where
    step : (k : ℕ) (d : Boarding) → k < n + 1 → (k < n) ⊎ (n ≤ k) → (get_or (boardings ++ boarding ∷ []) k d).run ≡ k
    step k d lt (inl old) =
        let many = before.many in
        ap (λ (b : Boarding). b.run) (get_or_append_left boardings (boarding ∷ []) d k (omega arith)) ∙ before.numbered k d old
    step k d lt (inr last) =
        let many = before.many in
        ap (λ (b : Boarding). b.run) (get_or_push boardings boarding d k (omega arith)) ∙ number ∙ omega arith

-- the departures of all runs, in order
pub column_of : (feed : FeedRows) (runs : List Run) (position : ℕ) (boardings column : List Boarding) → AreFirst feed runs position (length runs) boardings → IsPermutation boardings column → AreInOrder column → IsColumn feed runs position column
column_of feed runs position boardings column first moved rises = record {
  right = All-permutation (IsBoarding feed runs position) boardings column moved first.right;
  all = λ b is. Contains-permutation boardings column b moved (member b is);
  once = λ i j d lt within. apart (get_or column i d).run (get_or column j d).run
      (apart_moved (λ (a b : Boarding). a.run == b.run) (λ a b. grind (arith, nat_tests)) boardings column moved (first_apart feed runs position (length runs) boardings first) i j d lt within);
  rises = rises;
}
  where
    apart : (x y : ℕ) → (x == y) ≡ false → x ≢ y
    apart x y e same = grind (arith, nat_tests)

    member : (b : Boarding) → IsBoarding feed runs position b → Contains boardings b
    member b is =
        let lt = slice_get_within runs b.run is.run is.run_is in
        let many = first.many in
        (b.run, omega arith, one_departure feed runs position (get_or boardings b.run b) b (first.right b.run b (omega arith)) is (first.numbered b.run b lt))

-- one column more
pub columns_more : (feed : FeedRows) (runs : List Run) (n : ℕ) (columns new : List (List Boarding)) (own : List Boarding) → AreColumns feed runs n columns → IsColumn feed runs n own → new ≡ columns ++ own ∷ [] → AreColumns feed runs (n + 1) new
columns_more feed runs n columns new own before column pushed = record {
  many = ap length pushed ∙ length_push columns own ∙ ap (λ k. k + 1) before.many;
  each = λ position here got. step position here got (cases_lt position (length columns)) (cases_lt (length columns) position);
}
  where
    step : (position : ℕ) (here : List Boarding) → slice_get new position ≡ Some here → (position < length columns) ⊎ (length columns ≤ position) → (length columns < position) ⊎ (position ≤ length columns) → IsColumn feed runs position here
    step position here got (inl lt) _ = before.each position here (slice_get-old_item columns new own position pushed lt ∙ got)
    step position here got (inr ge) (inl gt) =
        let lt = slice_get_within new position here got in
        let long = ap length pushed ∙ length_push columns own in
        absurd (omega arith)
    step position here got (inr ge) (inr le) =
        let many = before.many in
        let at : position ≡ n = omega arith in
        let same : here ≡ own = same_Some _ _ (sym got ∙ ap (slice_get new) at ∙ slice_get-new_item columns new own n many pushed) in
        rw (at, same) column

-- departures in order are parted by each moment
pub parted : (column : List Boarding) (moment : ℤ) → AreInOrder column → IsPartitionedBy (λ (b : Boarding). int_lt b.at.0 moment) column
parted column moment rises i j d le lt after = ⊎_elim
    (λ (earlier : i < j). before (get_or column i d).at.0 (get_or column j d).at.0 (rises i j d earlier lt) after)
    (λ (later : j ≤ i). let same : j ≡ i = omega arith in subst (λ k. int_lt (get_or column k d).at.0 moment ≡ true) same after)
    (cases_lt i j)
  where
    before : (x y : ℤ) → x ≤ℤ y → int_lt y moment ≡ true → int_lt x moment ≡ true
    before x y le lt = grind (arith, ints)

pub not_before : (x moment : ℤ) → int_lt x moment ≡ false → moment ≤ℤ x
not_before x moment e = grind (arith, ints)

-- what is related in a list is so in the rest of it
pub AllPairs-drop : {X : Type 0} (R : X → X → Type 0) (n : ℕ) (xs : List X) → AllPairs R xs → AllPairs R (drop n xs)
AllPairs-drop R n xs all i j d lt within =
    let long = length-drop n xs in
    rw (get_or-drop n xs i d, get_or-drop n xs j d) (all (n + i) (n + j) d (omega arith) (omega arith))

-- what of a column is at the moment or later can be boarded
pub boardable_since : (feed : FeedRows) (runs : List Run) (position : ℕ) (from : ℤ) (column listed : List Boarding) → IsColumn feed runs position column → IsSince column from listed → AreBoardable feed runs position from listed
boardable_since feed runs position from column listed is since =
    subst (AreBoardable feed runs position from) (sym since.is) (record {
      right = All-drop (IsBoarding feed runs position) since.first column is.right;
      since = All-drop_within (λ (b : Boarding). from ≤ℤ b.at.0) column since.first since.within since.since;
      all = λ b here late. member b late (is.all b here) (cases_lt (is.all b here).0 since.first);
      once = AllPairs-drop (λ (a b : Boarding). a.run ≢ b.run) since.first column is.once;
      rises = AllPairs-drop (λ (a b : Boarding). a.at.0 ≤ℤ b.at.0) since.first column is.rises;
    })
  where
    not_both : (x : ℤ) → x <ℤ from → from ≤ℤ x → ⊥
    not_both x lt le = omega (arith, ints)

    member : (b : Boarding) → from ≤ℤ b.at.0 → (at : Contains column b) → (at.0 < since.first) ⊎ (since.first ≤ at.0) → Contains (drop since.first column) b
    member b late at (inl early) = absurd (not_both b.at.0 (subst (λ (x : Boarding). x.at.0 <ℤ from) at.2 (since.before at.0 b (omega arith) early)) late)
    member b late at (inr past) =
        let lt = at.1 in
        let long = length-drop since.first column in
        let place_is : since.first + (at.0 - since.first) ≡ at.0 = omega arith in
        (at.0 - since.first, omega arith, get_or-drop since.first column (at.0 - since.first) b ∙ ap (λ k. get_or column k b) place_is ∙ at.2)

-- what is made of the first items of a list, with what is made of the next one
pub made_next : {X : Type 0} {Y : Type 0} (f : X → Y) (xs : List X) (n : ℕ) (d : X) (made more : List Y) →
    n < length xs → made ≡ map f (take n xs) → more ≡ made ++ f (get_or xs n d) ∷ [] → more ≡ map f (take (n + 1) xs)
made_next f xs n d made more lt before grown =
    grown ∙ ap (λ ys. ys ++ f (get_or xs n d) ∷ []) before ∙ sym (map_more f xs n d lt)

-- the same where the next one is known
pub made_more : {X : Type 0} {Y : Type 0} (f : X → Y) (xs : List X) (n : ℕ) (x : X) (made more : List Y) →
    slice_get xs n ≡ Some x → made ≡ map f (take n xs) → more ≡ made ++ f x ∷ [] → more ≡ map f (take (n + 1) xs)
made_more f xs n x made more got before grown =
    made_next f xs n x made more (slice_get_within xs n x got) before
    (grown ∙ ap (λ y. made ++ f y ∷ []) (sym (get_or_from_slice_get xs n x x got)))

-- what is made of the first items of a list that has no more
pub made_all : {X : Type 0} {Y : Type 0} (f : X → Y) (xs : List X) (n : ℕ) (made : List Y) → length xs ≤ n →
    made ≡ map f (take n xs) → made ≡ map f xs
made_all f xs n made whole are = are ∙ ap (map f) (take_all n xs whole)

-- the times of a call by its place
pub timed_at : (calls : List Call) (k : ℕ) (call : Call) → AreTimed calls → slice_get calls k ≡ Some call → (call.arrival ≤ most_time) × (call.departure ≤ most_time)
timed_at calls k call timed got = All-slice_get (λ (c : Call). (c.arrival ≤ most_time) × (c.departure ≤ most_time)) calls k call got timed

-- runs of trips with these halts call at as many positions
pub calls_at_all : (feed : FeedRows) (halts : List Halt) (runs : List Run) → All (IsRunAt feed halts) runs → All (CallsAtAll feed (length halts)) runs
calls_at_all feed halts runs at =
    All-weaker (IsRunAt feed halts) (CallsAtAll feed (length halts))
    (λ run is. record { known = is.known; calls = sym (length-map (calls_of feed run.trip) halt_of) ∙ ap length is.calls }) runs at

-- a pattern of these halts and runs, with their columns
pub pattern_is : (feed : FeedRows) (halts : List Halt) (runs : List Run) (pattern : Pattern) →
    pattern.halts.items ≡ halts → pattern.runs.items ≡ runs → length halts < 2 ^ 32 → All (IsRunAt feed halts) runs →
    pattern.stops.items ≡ map (λ (p : Halt). p.stop) halts → AreColumns feed runs (length halts) pattern.departures → IsPattern feed pattern
pattern_is feed halts runs pattern halts_are runs_are few at stops departures = record {
  stops = stops ∙ ap (map (λ (p : Halt). p.stop)) (sym halts_are);
  few = subst (λ (hs : List Halt). length hs < 2 ^ 32) (sym halts_are) few;
  runs = subst (All (IsRunAt feed pattern.halts.items)) (sym runs_are) (subst (λ (hs : List Halt). All (IsRunAt feed hs) runs) (sym halts_are) at);
  departures = subst (λ (rs : List Run). AreColumns feed rs (length pattern.halts.items) pattern.departures) (sym runs_are)
      (subst (λ (hs : List Halt). AreColumns feed runs (length hs) pattern.departures) (sym halts_are) departures);
}
