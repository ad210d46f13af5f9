-- The shifts of a trip: they ascend, each run of a frequency row gives one, and none else is one.
use Rattle.std.proofs.Common.{◌≡◌, refl, sym, ◌∙◌, ap, subst, ℕ, ◌+◌, ◌-◌, ◌*◌, ◌/◌, ◌%◌, ◌<◌, ◌≤◌, ◌⊎◌, inl, inr, Bool, true, false, ◌&&◌, ◌||◌, ◌==◌, nat_lt, List, [], ◌∷◌, map, flat_map, AllPairs, Contains, ℤ, pos, negsuc, ◌+ℤ◌, ◌-ℤ◌, ◌<ℤ◌, ◌≤ℤ◌, int_lt, int_le, unsigned_abs, arith, int_cmp, mul-le-mul_right, mul-le-mul_left, div-mul-le_self, div-add-mod', add-mul}
use Rattle.std.specs.List.{list_any}
use Rattle.std.proofs.Math.Nat.{div-zero, mul-mod_left}
use Rattle.std.proofs.lemmas.Nat.{le-div}
use Rattle.std.proofs.lemmas.Bool.{cases_Bool, cases_eq, cases_lt, and_parts, and_from, ltb-true, lt-ltb, false_from_ne_true}
use Rattle.std.proofs.lemmas.Bool.Decides.{nat_tests}
use Rattle.std.proofs.lemmas.Int.{ints}
use Rattle.std.proofs.lemmas.List.Elements.{All-cons, All-weaker, All-contains}
use Rattle.transit_base.specs.declared.numbers.TripId.{TripId}
use Rattle.feed_rows.specs.declared.rows.FrequencyRow.{FrequencyRow}
use Rattle.feed_rows.specs.FeedRows.{FeedRows}
use Rattle.plain_laws.specs.Plain.{IsAscending, int_same, any_below, list_below}
use Rattle.feed_rows.specs.Calls.{first_departure}
use Rattle.feed_rows.specs.Shifts.{has_run, run_count, run_starts, with_number, ascending_of, trip_frequencies, has_frequencies, shifts_of, is_run_start, is_shift}
use Rattle.feed_rows.specs.TimedTrips.{DoRunsEndBy}
use Rattle.plain_laws.proofs.Laws.{any_below_hit, any_below_tells, list_any-list_below, picks_below_first, HaveSameMembers, AllPairs-cons, AllPairs-tail, AllPairs-head, Contains-cons_cases, Contains-cons_first, Contains-cons_later, same_from_members, less_order, int_lt-true, int_same-true, eq-int_same, int_above, All-from, ascending_from_strict, strict_from_ascending, same_test, list_any-map, list_any-flat_map, list_any-filter, list_any_same, list_any_tells}

-- a number put into a list is one member more, if it wasn't one
pub with_number_members : (z : ℤ) (ys : List ℤ) → HaveSameMembers (z ∷ ys) (with_number z ys)
with_number_members z [] = record { there = λ x at. at; back = λ x at. at }
with_number_members z (y ∷ ys) = step (with_number_members z ys) (int_lt z y) refl (int_same z y) refl
  where
    step : HaveSameMembers (z ∷ ys) (with_number z ys) → (a : Bool) → int_lt z y ≡ a → (b : Bool) → int_same z y ≡ b → HaveSameMembers (z ∷ y ∷ ys) (with_number z (y ∷ ys))
    step rest true e b f = rw e (record { there = λ x at. at; back = λ x at. at })
    step rest false e true f =
        let same = int_same-true z y f in
        let there : (x : ℤ) → (z ≡ x) ⊎ Contains (y ∷ ys) x → Contains (y ∷ ys) x = λ x. elim_there x same in
        rw (e, f) (record { there = λ x at. there x (Contains-cons_cases z (y ∷ ys) x at); back = λ x at. Contains-cons_later z (y ∷ ys) x at })
      where
        elim_there : (x : ℤ) → z ≡ y → (z ≡ x) ⊎ Contains (y ∷ ys) x → Contains (y ∷ ys) x
        elim_there x same (inl here) = subst (Contains (y ∷ ys)) (sym same ∙ here) (Contains-cons_first y ys)
        elim_there x same (inr later) = later
    step rest false e false f = rw (e, f) (record { there = λ x at. there x (Contains-cons_cases z (y ∷ ys) x at); back = λ x at. back x (Contains-cons_cases y (with_number z ys) x at) })
      where
        there_rest : (x : ℤ) → (y ≡ x) ⊎ Contains ys x → Contains (y ∷ with_number z ys) x
        there_rest x (inl here) = subst (Contains (y ∷ with_number z ys)) here (Contains-cons_first y (with_number z ys))
        there_rest x (inr later) = Contains-cons_later y (with_number z ys) x (rest.there x (Contains-cons_later z ys x later))

        there : (x : ℤ) → (z ≡ x) ⊎ Contains (y ∷ ys) x → Contains (y ∷ with_number z ys) x
        there x (inl here) = Contains-cons_later y (with_number z ys) x (rest.there x (subst (Contains (z ∷ ys)) here (Contains-cons_first z ys)))
        there x (inr later) = there_rest x (Contains-cons_cases y ys x later)

        back_rest : (x : ℤ) → (z ≡ x) ⊎ Contains ys x → Contains (z ∷ y ∷ ys) x
        back_rest x (inl here) = subst (Contains (z ∷ y ∷ ys)) here (Contains-cons_first z (y ∷ ys))
        back_rest x (inr later) = Contains-cons_later z (y ∷ ys) x (Contains-cons_later y ys x later)

        back : (x : ℤ) → (y ≡ x) ⊎ Contains (with_number z ys) x → Contains (z ∷ y ∷ ys) x
        back x (inl here) = Contains-cons_later z (y ∷ ys) x (subst (Contains (y ∷ ys)) here (Contains-cons_first y ys))
        back x (inr later) = back_rest x (Contains-cons_cases z ys x (rest.back x later))

-- the numbers in order are the numbers
pub ascending_of_members : (zs : List ℤ) → HaveSameMembers zs (ascending_of zs)
ascending_of_members [] = record { there = λ x at. at; back = λ x at. at }
ascending_of_members (z ∷ zs) =
    let rest = ascending_of_members zs in
    let put = with_number_members z (ascending_of zs) in
    record {
      there = λ x at. put.there x (there rest x (Contains-cons_cases z zs x at));
      back = λ x at. back rest x (Contains-cons_cases z (ascending_of zs) x (put.back x at));
    }
  where
    there : HaveSameMembers zs (ascending_of zs) → (x : ℤ) → (z ≡ x) ⊎ Contains zs x → Contains (z ∷ ascending_of zs) x
    there rest x (inl here) = subst (Contains (z ∷ ascending_of zs)) here (Contains-cons_first z (ascending_of zs))
    there rest x (inr later) = Contains-cons_later z (ascending_of zs) x (rest.there x later)

    back : HaveSameMembers zs (ascending_of zs) → (x : ℤ) → (z ≡ x) ⊎ Contains (ascending_of zs) x → Contains (z ∷ zs) x
    back rest x (inl here) = subst (Contains (z ∷ zs)) here (Contains-cons_first z zs)
    back rest x (inr later) = Contains-cons_later z zs x (rest.back x later)

-- a number put into a list that ascends
with_number_strict : (z : ℤ) (ys : List ℤ) → AllPairs ◌<ℤ◌ ys → AllPairs ◌<ℤ◌ (with_number z ys)
with_number_strict z [] ups = λ i j d lt within. absurd (omega arith)
with_number_strict z (y ∷ ys) ups = step (with_number_strict z ys (AllPairs-tail ◌<ℤ◌ y ys ups)) (int_lt z y) refl (int_same z y) refl
  where
    further : (x : ℤ) → y <ℤ z → (z ≡ x) ⊎ Contains ys x → y <ℤ x
    further x low (inl here) = subst (λ w. y <ℤ w) here low
    further x low (inr later) = All-contains (λ w. y <ℤ w) ys x (AllPairs-head ◌<ℤ◌ y ys ups) later

    step : AllPairs ◌<ℤ◌ (with_number z ys) → (a : Bool) → int_lt z y ≡ a → (b : Bool) → int_same z y ≡ b → AllPairs ◌<ℤ◌ (with_number z (y ∷ ys))
    step rest true e b f =
        let low = int_lt-true z y e in
        let all = All-cons (λ w. z <ℤ w) y ys low (All-weaker (λ w. y <ℤ w) (λ w. z <ℤ w) (λ w lt. less_order.transitive z y w low lt) ys (AllPairs-head ◌<ℤ◌ y ys ups)) in
        rw e (AllPairs-cons ◌<ℤ◌ z (y ∷ ys) all ups)
    step rest false e true f = rw (e, f) ups
    step rest false e false f =
        let low = int_above z y e f in
        let all = All-from (λ w. y <ℤ w) (with_number z ys) (λ x at. further x low (Contains-cons_cases z ys x ((with_number_members z ys).back x at))) in
        rw (e, f) (AllPairs-cons ◌<ℤ◌ y (with_number z ys) all rest)

-- the numbers in order ascend strictly
pub ascending_of_strict : (zs : List ℤ) → AllPairs ◌<ℤ◌ (ascending_of zs)
ascending_of_strict [] = λ i j d lt within. absurd (omega arith)
ascending_of_strict (z ∷ zs) = with_number_strict z (ascending_of zs) (ascending_of_strict zs)

-- so they are a list that ascends by the order of numbers
pub ascending_of_ascending : (zs : List ℤ) → IsAscending int_cmp (ascending_of zs)
ascending_of_ascending zs = ascending_from_strict (ascending_of zs) (ascending_of_strict zs)

-- and the only one that has their members
pub ascending_of_only : (zs sorted : List ℤ) → IsAscending int_cmp sorted → HaveSameMembers zs sorted → sorted ≡ ascending_of zs
ascending_of_only zs sorted ups same =
    same_from_members ◌<ℤ◌ less_order sorted (ascending_of zs) (strict_from_ascending sorted ups) (ascending_of_strict zs) (record {
      there = λ x at. (ascending_of_members zs).there x (same.back x at);
      back = λ x at. same.there x ((ascending_of_members zs).back x at);
    })

-- a member passes a test where one of the numbers does
pub list_any-ascending_of : (p : ℤ → Bool) (zs : List ℤ) → list_any p (ascending_of zs) ≡ list_any p zs
list_any-ascending_of p [] = refl
list_any-ascending_of p (z ∷ zs) = put z (ascending_of zs) ∙ ap (λ b. p z || b) (list_any-ascending_of p zs)
  where
    twice : (a b : Bool) → (a || b) ≡ (a || (a || b))
    twice true b = refl
    twice false b = refl

    turn : (a b c : Bool) → (a || (b || c)) ≡ (b || (a || c))
    turn true true c = refl
    turn true false c = refl
    turn false b c = refl

    put : (w : ℤ) (ys : List ℤ) → list_any p (with_number w ys) ≡ (p w || list_any p ys)
    put w [] = refl
    put w (y ∷ ys) = step (put w ys) (int_lt w y) refl (int_same w y) refl
      where
        step : list_any p (with_number w ys) ≡ (p w || list_any p ys) → (a : Bool) → int_lt w y ≡ a → (b : Bool) → int_same w y ≡ b → list_any p (with_number w (y ∷ ys)) ≡ (p w || list_any p (y ∷ ys))
        step rest true e b f = rw e refl
        step rest false e true f = let same = int_same-true w y f in rw (e, f, same) (twice (p y) (list_any p ys))
        step rest false e false f = rw (e, f, rest) (turn (p y) (p w) (list_any p ys))

-- a run of a frequency row departs at this second
pub record IsRunStart (row : FrequencyRow) (s : ℕ) : Type 0 where
  pub some : 0 < row.headway
  pub from : row.start ≤ s
  pub until : s < row.end
  pub steps : (s - row.start) % row.headway ≡ 0

-- how often a headway fits below a length
fits_below : (x n headway : ℕ) → 0 < headway → x < (n + headway - 1) / headway → x * headway < n
fits_below x n headway some lt =
    let more : (x + 1) * headway ≤ (n + headway - 1) / headway * headway = mul-le-mul_right headway (omega arith) in
    let most : (n + headway - 1) / headway * headway ≤ n + headway - 1 = div-mul-le_self (n + headway - 1) headway in
    let spread : (x + 1) * headway ≡ x * headway + 1 * headway = add-mul x 1 headway in
    omega (arith, more, most, spread)

below_fits : (x n headway : ℕ) → 0 < headway → x * headway < n → x < (n + headway - 1) / headway
below_fits x n headway some lt =
    let spread : (x + 1) * headway ≡ x * headway + 1 * headway = add-mul x 1 headway in
    let less : x + 1 ≤ (n + headway - 1) / headway = le-div (x + 1) (n + headway - 1) headway some (omega (arith, spread)) in
    omega (arith, less)

-- the runs of a row are those before its end
pub run_count_tells : (row : FrequencyRow) (x : ℕ) → x < run_count row → (0 < row.headway) × (row.start + x * row.headway < row.end)
run_count_tells row x lt = step (cases_eq row.headway 0)
  where
    step : (row.headway ≡ 0) ⊎ (row.headway ≡ 0 → ⊥) → (0 < row.headway) × (row.start + x * row.headway < row.end)
    step (inl none) =
        let nothing : run_count row ≡ 0 = rw none (div-zero (row.end - row.start + 0 - 1)) in
        absurd (omega (arith, nothing))
    step (inr some) =
        let within = fits_below x (row.end - row.start) row.headway (omega arith) lt in
        (omega arith, omega (arith, within))

pub run_count_hit : (row : FrequencyRow) (x : ℕ) → 0 < row.headway → row.start + x * row.headway < row.end → x < run_count row
run_count_hit row x some lt = below_fits x (row.end - row.start) row.headway some (omega arith)

-- the runs that a row has are the first so many
has_run_hit : (row : FrequencyRow) (x : ℕ) → x < run_count row → has_run row x ≡ true
has_run_hit row x lt =
    let within = run_count_tells row x lt in
    and_from _ _ (lt-ltb 0 row.headway within.0) (lt-ltb (row.start + x * row.headway) row.end within.1)

has_run_tells : (row : FrequencyRow) (x : ℕ) → has_run row x ≡ true → x < run_count row
has_run_tells row x e =
    let parts = and_parts _ _ e in run_count_hit row x (ltb-true _ _ parts.0) (ltb-true _ _ parts.1)

-- no headway is less than a second, so they are no more than the seconds between start and end
run_count_most : (row : FrequencyRow) → run_count row ≤ row.end - row.start
run_count_most row = step (cases_lt (row.end - row.start) (run_count row))
  where
    step : (row.end - row.start < run_count row) ⊎ (run_count row ≤ row.end - row.start) → run_count row ≤ row.end - row.start
    step (inr le) = le
    step (inl lt) =
        let within = run_count_tells row (row.end - row.start) lt in
        let some = within.0 in
        let before = within.1 in
        let more : (row.end - row.start) * 1 ≤ (row.end - row.start) * row.headway = mul-le-mul_left (row.end - row.start) some in
        absurd (omega (arith, more))

-- so the departures are those of the first so many runs
pub run_starts_counted : (row : FrequencyRow) → run_starts row ≡ list_below (run_count row) (λ x. row.start + x * row.headway)
run_starts_counted row =
    picks_below_first (has_run row) (λ x. row.start + x * row.headway) (run_count row) (row.end - row.start) (run_count_most row)
    (has_run_hit row) (λ x from. false_from_ne_true (has_run row x) (λ e. let lt = has_run_tells row x e in omega arith))

-- the start of a run, by its number
pub run_start_at : (row : FrequencyRow) (x : ℕ) → 0 < row.headway → row.start + x * row.headway < row.end → IsRunStart row (row.start + x * row.headway)
run_start_at row x some lt =
    let past : row.start + x * row.headway - row.start ≡ x * row.headway = omega arith in
    record { some = some; from = omega arith; until = lt; steps = rw past (mul-mod_left x row.headway) }

-- and its number, by its start
pub run_start_number : (row : FrequencyRow) (s : ℕ) → IsRunStart row s → (x : ℕ) × (x < run_count row) × (row.start + x * row.headway ≡ s)
run_start_number row s run =
    let some = run.some in
    let from = run.from in
    let until = run.until in
    let whole : (s - row.start) / row.headway * row.headway + (s - row.start) % row.headway ≡ s - row.start = div-add-mod' (s - row.start) row.headway in
    let rest = run.steps in
    let here : row.start + (s - row.start) / row.headway * row.headway ≡ s = omega (arith, whole, rest) in
    ((s - row.start) / row.headway, run_count_hit row ((s - row.start) / row.headway) some (omega (arith, here)), here)

-- the test of a run's start
pub is_run_start_hit : (row : FrequencyRow) (s : ℕ) → IsRunStart row s → is_run_start row (pos s) ≡ true
unfolding is_run_start
is_run_start_hit row s run =
    let some = run.some in
    let from = run.from in
    let until = run.until in
    let a : nat_lt 0 row.headway ≡ true = grind (arith, nat_tests) in
    let b : int_le (pos row.start) (pos s) ≡ true = grind (arith, ints) in
    let c : int_lt (pos s) (pos row.end) ≡ true = grind (arith, ints) in
    let d : ((s - row.start) % row.headway == 0) ≡ true = rw run.steps refl in
    and_from _ _ (and_from _ _ (and_from _ _ a b) c) d

no_run : (a c d : Bool) → ((a && false) && c) && d ≡ true → ⊥
no_run true c d = λ (e : false ≡ true). cc
no_run false c d = λ (e : false ≡ true). cc

pub is_run_start_tells : (row : FrequencyRow) (z : ℤ) → is_run_start row z ≡ true → (s : ℕ) × (z ≡ pos s) × IsRunStart row s
unfolding is_run_start
is_run_start_tells row (pos s) e =
    let parts = and_parts _ _ e in
    let more = and_parts _ _ parts.0 in
    let most = and_parts _ _ more.0 in
    (s, refl, tell s (most.0) (most.1) (more.1) (parts.1))
  where
    tell : (s : ℕ) → nat_lt 0 row.headway ≡ true → int_le (pos row.start) (pos s) ≡ true → int_lt (pos s) (pos row.end) ≡ true → ((s - row.start) % row.headway == 0) ≡ true → IsRunStart row s
    tell s a b c d = record { some = grind (arith, nat_tests); from = grind (arith, ints); until = grind (arith, ints); steps = grind (arith, nat_tests) }
is_run_start_tells row (negsuc s) e = absurd (no_run (nat_lt 0 row.headway) (int_lt (negsuc s) (pos row.end)) ((unsigned_abs (negsuc s) - row.start) % row.headway == 0) e)

-- a number is a shift by a frequency row where the departure that it leads to is a start of its runs
pub list_any-run_starts : (row : FrequencyRow) (z : ℤ) (first : ℕ) → list_any (λ start. int_same z (pos start -ℤ pos first)) (run_starts row) ≡ is_run_start row (z +ℤ pos first)
list_any-run_starts row z first =
    let test = λ (x : ℕ). int_same z (pos (row.start + x * row.headway) -ℤ pos first) in
    ap (list_any (λ start. int_same z (pos start -ℤ pos first))) (run_starts_counted row)
    ∙ list_any-list_below (λ start. int_same z (pos start -ℤ pos first)) (run_count row) (λ x. row.start + x * row.headway)
    ∙ same_test (any_below (run_count row) test) (is_run_start row (z +ℤ pos first)) (λ e. there (any_below_tells test (run_count row) e)) (λ e. back (is_run_start_tells row (z +ℤ pos first) e))
  where
    there : (k : ℕ) × (k < run_count row) × (int_same z (pos (row.start + k * row.headway) -ℤ pos first) ≡ true) → is_run_start row (z +ℤ pos first) ≡ true
    there found =
        let within = run_count_tells row found.0 found.1 in
        let same : z ≡ pos (row.start + found.0 * row.headway) -ℤ pos first = int_same-true z _ found.2 in
        let leads : z +ℤ pos first ≡ pos (row.start + found.0 * row.headway) = omega (arith, ints, same) in
        rw leads (is_run_start_hit row (row.start + found.0 * row.headway) (run_start_at row found.0 within.0 within.1))

    back : (s : ℕ) × (z +ℤ pos first ≡ pos s) × IsRunStart row s → any_below (run_count row) (λ x. int_same z (pos (row.start + x * row.headway) -ℤ pos first)) ≡ true
    back found =
        let number = run_start_number row found.0 found.2 in
        let leads = found.1 in
        let same : z ≡ pos found.0 -ℤ pos first = omega (arith, ints, leads) in
        let here : z ≡ pos (row.start + number.0 * row.headway) -ℤ pos first = rw number.2 same in
        any_below_hit (λ x. int_same z (pos (row.start + x * row.headway) -ℤ pos first)) (run_count row) number.0 number.1 (eq-int_same z _ here)

-- a number is among the shifts of a trip where the test says so
pub list_any-shifts_of : (feed : FeedRows) (trip : TripId) (z : ℤ) → list_any (int_same z) (shifts_of feed trip) ≡ is_shift feed trip z
unfolding shifts_of is_shift
list_any-shifts_of feed trip z = step (has_frequencies feed trip) refl
  where
    alone : (b : Bool) → (b || false) ≡ b
    alone true = refl
    alone false = refl

    step : (b : Bool) → has_frequencies feed trip ≡ b → list_any (int_same z) (shifts_of feed trip) ≡ is_shift feed trip z
    step false e = rw e (alone (int_same z (pos 0)))
    step true e =
        let first = first_departure feed trip in
        let shift = λ (start : ℕ). pos start -ℤ pos first in
        let test = λ (f : FrequencyRow). list_any (λ start. int_same z (pos start -ℤ pos first)) (run_starts f) in
        rw e (list_any-ascending_of (int_same z) (map shift (flat_map run_starts (trip_frequencies feed trip)))
        ∙ list_any-map (int_same z) shift (flat_map run_starts (trip_frequencies feed trip))
        ∙ list_any-flat_map (λ start. int_same z (pos start -ℤ pos first)) run_starts (trip_frequencies feed trip)
        ∙ list_any-filter test (λ f. f.trip.0 == trip.0) feed.frequencies
        ∙ list_any_same (λ f. f.trip.0 == trip.0 && test f) (λ f. f.trip.0 == trip.0 && is_run_start f (z +ℤ pos first)) feed.frequencies (λ f. ap (λ b. f.trip.0 == trip.0 && b) (list_any-run_starts f z first)))

-- to be a member is to be found
pub found_from_Contains : (zs : List ℤ) (z : ℤ) → Contains zs z → list_any (int_same z) zs ≡ true
found_from_Contains [] z at = let lt = at.1 in absurd (omega arith)
found_from_Contains (y ∷ ys) z at = step (found_from_Contains ys z) (Contains-cons_cases y ys z at)
  where
    later : (a b : Bool) → b ≡ true → (a || b) ≡ true
    later true b e = refl
    later false b e = e

    step : (Contains ys z → list_any (int_same z) ys ≡ true) → (y ≡ z) ⊎ Contains ys z → list_any (int_same z) (y ∷ ys) ≡ true
    step rest (inl here) = rw (eq-int_same z y (sym here)) refl
    step rest (inr there) = later (int_same z y) (list_any (int_same z) ys) (rest there)

pub Contains_from_found : (zs : List ℤ) (z : ℤ) → list_any (int_same z) zs ≡ true → Contains zs z
Contains_from_found [] z e = absurd (cc)
Contains_from_found (y ∷ ys) z e = step (Contains_from_found ys z) (int_same z y) refl
  where
    step : (list_any (int_same z) ys ≡ true → Contains ys z) → (b : Bool) → int_same z y ≡ b → Contains (y ∷ ys) z
    step rest true same = subst (Contains (y ∷ ys)) (sym (int_same-true z y same)) (Contains-cons_first y ys)
    step rest false apart = Contains-cons_later y ys z (rest (rw apart at e))

-- the shifts of a trip ascend
pub shifts_of_strict : (feed : FeedRows) (trip : TripId) → AllPairs ◌<ℤ◌ (shifts_of feed trip)
unfolding shifts_of
shifts_of_strict feed trip = step (has_frequencies feed trip) refl
  where
    step : (b : Bool) → has_frequencies feed trip ≡ b → AllPairs ◌<ℤ◌ (shifts_of feed trip)
    step true e = rw e (ascending_of_strict (map (λ start. pos start -ℤ pos (first_departure feed trip)) (flat_map run_starts (trip_frequencies feed trip))))
    step false e = rw e (λ i j d lt within. absurd (omega arith))

-- a list that ascends and has those numbers that the test passes is that of the shifts
pub shifts_of_only : (feed : FeedRows) (trip : TripId) (sorted : List ℤ) → IsAscending int_cmp sorted → ((z : ℤ) → list_any (int_same z) sorted ≡ is_shift feed trip z) → sorted ≡ shifts_of feed trip
shifts_of_only feed trip sorted ups same =
    same_from_members ◌<ℤ◌ less_order sorted (shifts_of feed trip) (strict_from_ascending sorted ups) (shifts_of_strict feed trip) (record {
      there = λ z at. Contains_from_found (shifts_of feed trip) z (list_any-shifts_of feed trip z ∙ sym (same z) ∙ found_from_Contains sorted z at);
      back = λ z at. Contains_from_found sorted z (same z ∙ sym (list_any-shifts_of feed trip z) ∙ found_from_Contains (shifts_of feed trip) z at);
    })

-- a run of a trip that departs from its first stop at this second, and the shift that leads to it
pub record IsRunOf (feed : FeedRows) (trip : TripId) (z : ℤ) (s : ℕ) : Type 0 where
  pub leads : z +ℤ pos (first_departure feed trip) ≡ pos s
  pub row : FrequencyRow
  pub member : Contains feed.frequencies row
  pub of_trip : row.trip.0 ≡ trip.0
  pub start : IsRunStart row s

-- a shift of a trip with frequency rows leads to a run of one of them
pub is_shift_run : (feed : FeedRows) (trip : TripId) (z : ℤ) → has_frequencies feed trip ≡ true → is_shift feed trip z ≡ true → (s : ℕ) × IsRunOf feed trip z s
unfolding is_shift
is_shift_run feed trip z frequent e =
    let test = λ (f : FrequencyRow). f.trip.0 == trip.0 && is_run_start f (z +ℤ pos (first_departure feed trip)) in
    let some : list_any test feed.frequencies ≡ true = rw frequent at e in
    let found = list_any_tells test feed.frequencies some in
    let both = and_parts (found.0.trip.0 == trip.0) (is_run_start found.0 (z +ℤ pos (first_departure feed trip))) found.2 in
    let run = is_run_start_tells found.0 (z +ℤ pos (first_departure feed trip)) both.1 in
    (run.0, record { leads = run.1; row = found.0; member = found.1; of_trip = told found.0.trip.0 trip.0 both.0; start = run.2 })
  where
    told : (a b : ℕ) → (a == b) ≡ true → a ≡ b
    told a b e = grind (arith, nat_tests)

-- and that of a trip without them is 0
pub is_shift_none : (feed : FeedRows) (trip : TripId) (z : ℤ) → has_frequencies feed trip ≡ false → is_shift feed trip z ≡ true → z ≡ pos 0
unfolding is_shift
is_shift_none feed trip z bare e = int_same-true z (pos 0) (rw bare at e)

-- a shift leads to a second of the service day that is no later than runs end and trips begin
pub is_shift_leads : (feed : FeedRows) (trip : TripId) (z : ℤ) (most : ℕ) → DoRunsEndBy feed trip most → first_departure feed trip ≤ most → is_shift feed trip z ≡ true
    → (s : ℕ) × (z +ℤ pos (first_departure feed trip) ≡ pos s) × (s ≤ most)
is_shift_leads feed trip z most ends begins e = step (cases_Bool (has_frequencies feed trip))
  where
    at_none : (n : ℕ) → pos 0 +ℤ pos n ≡ pos n
    at_none n = omega (arith, ints)

    step : (has_frequencies feed trip ≡ true) ⊎ (has_frequencies feed trip ≡ false) → (s : ℕ) × (z +ℤ pos (first_departure feed trip) ≡ pos s) × (s ≤ most)
    step (inl frequent) =
        let found = is_shift_run feed trip z frequent e in
        let run = found.1 in
        let until = run.start.until in
        let by = All-contains (λ (f : FrequencyRow). f.trip.0 ≡ trip.0 → f.end ≤ most) feed.frequencies run.row ends run.member run.of_trip in
        (found.0, run.leads, omega (arith, until, by))
    step (inr bare) = let none = is_shift_none feed trip z bare e in (first_departure feed trip, rw none (at_none (first_departure feed trip)), begins)

-- so it lies within bounds
pub is_shift_bounds : (feed : FeedRows) (trip : TripId) (z : ℤ) (most : ℕ) → 0 < most → DoRunsEndBy feed trip most → first_departure feed trip ≤ most → is_shift feed trip z ≡ true
    → ((pos 0 -ℤ pos most) ≤ℤ z) × (z <ℤ pos most)
is_shift_bounds feed trip z most some ends begins e = step (cases_Bool (has_frequencies feed trip))
  where
    step : (has_frequencies feed trip ≡ true) ⊎ (has_frequencies feed trip ≡ false) → ((pos 0 -ℤ pos most) ≤ℤ z) × (z <ℤ pos most)
    step (inl frequent) =
        let found = is_shift_run feed trip z frequent e in
        let run = found.1 in
        let until = run.start.until in
        let leads = run.leads in
        let by = All-contains (λ (f : FrequencyRow). f.trip.0 ≡ trip.0 → f.end ≤ most) feed.frequencies run.row ends run.member run.of_trip in
        (omega (arith, ints, leads, begins), omega (arith, ints, leads, until, by))
    step (inr bare) = let none = is_shift_none feed trip z bare e in (omega (arith, ints, none), omega (arith, ints, none))
