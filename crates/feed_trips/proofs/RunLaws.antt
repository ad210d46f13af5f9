-- The shifts of a trip from its frequency rows in any order.
use Rattle.std.proofs.Common.{◌≡◌, refl, sym, ◌∙◌, ap, ℕ, ◌+◌, ◌<◌, get_or, take, map, ◌++◌, append_assoc, add-one, ◌*◌, Bool, true, false, ◌&&◌, ◌==◌, List, [], ◌∷◌, length, ℤ, pos, ◌+ℤ◌, ◌-ℤ◌, flat_map, arith}
use Rattle.std.specs.List.{list_any}
use Rattle.std.proofs.lemmas.List.{append-nil, map-append, take_more}
use Rattle.std.proofs.lemmas.List.Concat.{flat_map-append}
use mir.Syntax.{w32}
use mir.Val.{Fits}
use Rattle.transit_base.specs.declared.numbers.TripId.{TripId}
use Rattle.feed_rows.specs.declared.rows.FrequencyRow.{FrequencyRow}
use Rattle.feed_rows.specs.FeedRows.{FeedRows}
use Rattle.plain_laws.specs.Plain.{int_same, list_below}
use Rattle.feed_rows.specs.Calls.{first_departure}
use Rattle.feed_rows.specs.Shifts.{run_starts, run_count, ascending_of, has_frequencies, shifts_of, is_run_start, is_shift}
use Rattle.feed_laws.proofs.ShiftLaws.{ascending_of_ascending, list_any-ascending_of, list_any-run_starts, run_count_tells, shifts_of_only}
use Rattle.plain_laws.proofs.Laws.{list_any-map, list_any-flat_map, list_any_same}
use Rattle.feed_trips.specs.Runs.{AreRunsOf, IsSoundRun, shifts_against}
use Rattle.feed_laws.proofs.RideLaws.{is_ride_by_shift}

-- the start of a run of a row is a small number, and so is its distance from the row's
pub start_fits : (row : FrequencyRow) (run : ℕ) → IsSoundRun row → run < run_count row → Fits w32 (row.start + run * row.headway)
start_fits row run sound lt =
    let before = (run_count_tells row run lt).1 in
    let end = sound.end in
    omega (arith, before, end)

pub run_fits : (row : FrequencyRow) (run : ℕ) → IsSoundRun row → run < run_count row → Fits w32 (run * row.headway)
run_fits row run sound lt =
    let before = (run_count_tells row run lt).1 in
    let end = sound.end in
    omega (arith, before, end)

-- the shifts of the first runs with one more
pub shifts_on : (old : List ℤ) (first : ℕ) (start : ℕ → ℕ) (n : ℕ) → (old ++ map (λ s. pos s -ℤ pos first) (list_below n start)) ++ (pos (start n) -ℤ pos first) ∷ [] ≡ old ++ map (λ s. pos s -ℤ pos first) (list_below (n + 1) start)
shifts_on old first start n =
    let shift : ℕ → ℤ = λ s. pos s -ℤ pos first in
    append_assoc old (map shift (list_below n start)) (shift (start n) ∷ []) ∙ ap (λ xs. old ++ xs) (sym (ap (λ k. map shift (list_below k start)) (add-one n) ∙ map-append shift (list_below n start) (start n ∷ [])))

true_right : (b : Bool) → (b && true) ≡ b
true_right true = refl
true_right false = refl

-- a trip has frequency rows where there are some
frequent : (feed : FeedRows) (trip : TripId) (rows : List FrequencyRow) → AreRunsOf feed trip rows → list_any (λ (f : FrequencyRow). true) rows ≡ has_frequencies feed trip
frequent feed trip rows are =
    are (λ (f : FrequencyRow). true) ∙ list_any_same (λ (f : FrequencyRow). f.trip.0 == trip.0 && true) (λ (f : FrequencyRow). f.trip.0 == trip.0) feed.frequencies (λ f. true_right (f.trip.0 == trip.0))

some_any : (rows : List FrequencyRow) → 0 < length rows → list_any (λ (f : FrequencyRow). true) rows ≡ true
some_any [] some = absurd (omega arith)
some_any (f ∷ fs) some = refl

none_any : (rows : List FrequencyRow) → length rows ≡ 0 → list_any (λ (f : FrequencyRow). true) rows ≡ false
none_any [] none = refl
none_any (f ∷ fs) none = absurd (omega arith)

-- a trip without them has none, and one with them has some
pub has_frequencies_none : (feed : FeedRows) (trip : TripId) (rows : List FrequencyRow) → AreRunsOf feed trip rows → length rows ≡ 0 → has_frequencies feed trip ≡ false
has_frequencies_none feed trip rows are none = sym (frequent feed trip rows are) ∙ none_any rows none

pub has_frequencies_rows : (feed : FeedRows) (trip : TripId) (rows : List FrequencyRow) → AreRunsOf feed trip rows → 0 < length rows → has_frequencies feed trip ≡ true
has_frequencies_rows feed trip rows are some = sym (frequent feed trip rows are) ∙ some_any rows some

-- without frequency rows a shift is 0
pub is_shift_none : (feed : FeedRows) (trip : TripId) (rows : List FrequencyRow) (z : ℤ) → AreRunsOf feed trip rows → length rows ≡ 0 → is_shift feed trip z ≡ int_same z (pos 0)
unfolding is_shift
is_shift_none feed trip rows z are none =
    let bare : has_frequencies feed trip ≡ false = sym (frequent feed trip rows are) ∙ none_any rows none in
    rw bare refl

-- with them it leads to a run of one of them
pub is_shift_rows : (feed : FeedRows) (trip : TripId) (rows : List FrequencyRow) (z : ℤ) → AreRunsOf feed trip rows → 0 < length rows → is_shift feed trip z ≡ list_any (λ (f : FrequencyRow). is_run_start f (z +ℤ pos (first_departure feed trip))) rows
unfolding is_shift
is_shift_rows feed trip rows z are some =
    let has : has_frequencies feed trip ≡ true = sym (frequent feed trip rows are) ∙ some_any rows some in
    rw has (sym (are (λ (f : FrequencyRow). is_run_start f (z +ℤ pos (first_departure feed trip)))))

-- without frequency rows the shifts are 0 alone
pub shifts_of_none : (feed : FeedRows) (trip : TripId) (rows : List FrequencyRow) → AreRunsOf feed trip rows → length rows ≡ 0 → shifts_of feed trip ≡ pos 0 ∷ []
unfolding shifts_of
shifts_of_none feed trip rows are none =
    let bare : has_frequencies feed trip ≡ false = sym (frequent feed trip rows are) ∙ none_any rows none in
    rw bare refl

-- with them they are those of their runs
pub shifts_of_rows : (feed : FeedRows) (trip : TripId) (rows : List FrequencyRow) → AreRunsOf feed trip rows → 0 < length rows → shifts_of feed trip ≡ ascending_of (shifts_against (first_departure feed trip) rows)
shifts_of_rows feed trip rows are some =
    let first = first_departure feed trip in
    let numbers = shifts_against first rows in
    sym (shifts_of_only feed trip (ascending_of numbers) (ascending_of_ascending numbers) (λ z.
    list_any-ascending_of (int_same z) numbers
    ∙ list_any-map (int_same z) (λ start. pos start -ℤ pos first) (flat_map run_starts rows)
    ∙ list_any-flat_map (λ start. int_same z (pos start -ℤ pos first)) run_starts rows
    ∙ list_any_same (λ (f : FrequencyRow). list_any (λ start. int_same z (pos start -ℤ pos first)) (run_starts f)) (λ (f : FrequencyRow). is_run_start f (z +ℤ pos first)) rows (λ f. list_any-run_starts f z first)
    ∙ sym (is_shift_rows feed trip rows z are some)))

-- the shifts of the first rows with one more
pub shifts_more : (first : ℕ) (rows : List FrequencyRow) (i : ℕ) (d : FrequencyRow) → i < length rows → shifts_against first (take i rows) ++ map (λ start. pos start -ℤ pos first) (run_starts (get_or rows i d)) ≡ shifts_against first (take (i + 1) rows)
shifts_more first rows i d lt =
    let shift : ℕ → ℤ = λ start. pos start -ℤ pos first in
    let row = get_or rows i d in
    sym (ap (shifts_against first) (take_more rows i d lt) ∙ ap (map shift) (flat_map-append run_starts (take i rows) (row ∷ []) ∙ ap (λ xs. flat_map run_starts (take i rows) ++ xs) (append-nil (run_starts row)))
    ∙ map-append shift (flat_map run_starts (take i rows)) (run_starts row))

-- what the numbers of a trip's runs are put in order by
pub ruleset ascending_runs = (ascending_of_ascending)

-- what a ride is judged by, once its shift is
pub ruleset rides_by_shift = (is_ride_by_shift)
