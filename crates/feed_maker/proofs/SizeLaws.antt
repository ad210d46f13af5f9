-- How long the files of a generated feed are at most.
use Rattle.std.proofs.Common.{◌≡◌, ℕ, zero, suc, ◌+◌, ◌*◌, ◌-◌, ◌/◌, ◌%◌, ◌<◌, ◌≤◌, Bool, true, false, List, [], ◌∷◌, ◌++◌, length, length-append, arith, nat_lt}
use Rattle.std.specs.Prelude.{codes, decimal, nat_le, if◌then◌else◌, ◌==◌}
use Rattle.std.proofs.lemmas.Fmt.{length-decimal-le}
use Rattle.transit_base.specs.Limits.{most_time}
use Rattle.transit_base.specs.DateTexts.{two_digits, hours_text, clock_text, time_text}
use Rattle.plain_laws.specs.Plain.{joined_below}
use Rattle.feed_files.specs.HeldFiles.{most_bytes}
use Rattle.feed_rows.specs.GeneratedFeed.{stop_name, route_name, route_stop, network_name, trip_name, area_name, row_text, stops_file, routes_file, trips_file, stop_times_file, stop_areas_file}
use Rattle.feed_maker.specs.declared.draws.Pace.{Pace}
use Rattle.feed_maker.specs.Draws.{pace_of}
use Rattle.feed_maker.specs.FileTexts.{stops_header, stop_areas_header, routes_header, trips_header, stop_times_header, stop_line, stop_lines, stop_area_line, stop_area_lines, route_line, trip_line, trip_lines, call_line, call_lines, timed_lines}
use Rattle.feed_maker.proofs.FileLaws.{stops_text, stop_areas_text, routes_text, trips_text, stop_times_text}

-- lists that are joined are as long as so many of the longest at most
joined_size : (n most : ℕ) (f : ℕ → List ℕ) →
    ((i : ℕ) → i < n → length (f i) ≤ most) → length (joined_below n f) ≤ n * most
joined_size zero most f each = omega arith
joined_size (suc n) most f each =
    let before = joined_size n most f (λ i lt. each i (omega arith)) in
    let last = each n (omega arith) in
    omega (arith, length-append (joined_below n f) (f n))

-- and so is a file of them, behind its header
file_size : (header : List ℕ) (n most : ℕ) (f : ℕ → List ℕ) → ((i : ℕ) → i < n → length (f i) ≤ most) →
    length header + n * most ≤ most_bytes → length (header ++ joined_below n f) ≤ most_bytes
file_size header n most f each small =
    let lines = joined_size n most f each in
    omega (arith, length-append header (joined_below n f))

-- ---- names

-- a number of two digits at most
decimal_size : (n : ℕ) → n < 100 → length (decimal n) ≤ 2
decimal_size n small = length-decimal-le 2 n (omega arith) small (omega arith)

stop_size : (r c : ℕ) → r < 100 → c < 100 → length (stop_name r c) ≤ 7
stop_size r c row column =
    let a = decimal_size r row in
    let b = decimal_size c column in
    simp length-append (omega arith)

route_size : (lines i : ℕ) → i < 100 → length (route_name lines i) ≤ 3
route_size lines i small = step (nat_lt i lines)
  where
    step : (b : Bool) → length (if b then codes "H" ++ decimal i else codes "V" ++ decimal (i - lines)) ≤ 3
    step true = let a = decimal_size i small in omega arith
    step false = let a = decimal_size (i - lines) (omega arith) in omega arith

route_stop_size : (lines i p : ℕ) → i < 100 → p < 100 → length (route_stop lines i p) ≤ 7
route_stop_size lines i p small position = step (nat_lt i lines)
  where
    step : (b : Bool) → length (if b then stop_name i p else stop_name p (i - lines)) ≤ 7
    step true = stop_size i p small position
    step false = stop_size p (i - lines) position (omega arith)

network_size : (i : ℕ) → length (network_name i) ≤ 4
network_size i = step (i % 3 == 0) (i % 3 == 1)
  where
    step : (a b : Bool) → length (if a then codes "bus" else if b then codes "tram" else codes "rail") ≤ 4
    step true b = omega arith
    step false true = omega arith
    step false false = omega arith

area_size : (lines r c : ℕ) → length (area_name lines r c) ≤ 2
area_size lines r c = step (nat_lt (r + c) lines)
  where
    step : (b : Bool) → length (if b then codes "z0" else codes "z1") ≤ 2
    step true = omega arith
    step false = omega arith

trip_size : (lines i k : ℕ) → i < 100 → k < 100 → length (trip_name lines i k) ≤ 6
trip_size lines i k route trip =
    let a = route_size lines i route in
    let b = decimal_size k trip in
    let front = length-append (route_name lines i) (codes "_") in
    omega (arith, front, length-append (route_name lines i ++ codes "_") (decimal k))

hours_size : (n : ℕ) → length (hours_text n) ≤ 3
hours_size n = step (nat_lt n 100)
  where
    step : (b : Bool) → length (if b then two_digits n else (48 + n / 100) ∷ two_digits (n % 100)) ≤ 3
    step true = omega arith
    step false = omega arith

time_size : (second : ℕ) → length (time_text second) ≤ 9
unfolding time_text
time_size second = step (nat_le second most_time)
  where
    step : (b : Bool) → length (if b then clock_text second else []) ≤ 9
    step true = let a = hours_size (second / 3600) in simp length-append (omega arith)
    step false = omega arith

-- ---- lines

one_field : (a : List ℕ) → length (row_text (a ∷ [])) ≡ length a + 1
one_field a = length-append a (10 ∷ [])

two_fields : (a b : List ℕ) → length (row_text (a ∷ b ∷ [])) ≡ length a + length b + 2
two_fields a b = simp length-append (omega arith)

three_fields : (a b c : List ℕ) → length (row_text (a ∷ b ∷ c ∷ [])) ≡ length a + length b + length c + 3
three_fields a b c = simp length-append (omega arith)

five_fields : (a b c d e : List ℕ) →
    length (row_text (a ∷ b ∷ c ∷ d ∷ e ∷ [])) ≡ length a + length b + length c + length d + length e + 5
five_fields a b c d e = simp length-append (omega arith)

stop_line_size : (r c : ℕ) → r < 100 → c < 100 → length (stop_line r c) ≤ 8
unfolding stop_line
stop_line_size r c row column = let a = stop_size r c row column in omega (arith, one_field (stop_name r c))

area_line_size : (lines r c : ℕ) → r < 100 → c < 100 → length (stop_area_line lines r c) ≤ 11
unfolding stop_area_line
area_line_size lines r c row column =
    let a = area_size lines r c in
    let b = stop_size r c row column in
    omega (arith, two_fields (area_name lines r c) (stop_name r c))

route_line_size : (lines i : ℕ) → i < 100 → length (route_line lines i) ≤ 9
unfolding route_line
route_line_size lines i small =
    let a = route_size lines i small in
    let b = network_size i in
    omega (arith, two_fields (route_name lines i) (network_name i))

trip_line_size : (lines i k : ℕ) → i < 100 → k < 100 → length (trip_line lines i k) ≤ 13
unfolding trip_line
trip_line_size lines i k route trip =
    let a = route_size lines i route in
    let b = trip_size lines i k route trip in
    omega (arith, three_fields (route_name lines i) (codes "W") (trip_name lines i k))

call_line_size : (lines i k p second : ℕ) → i < 100 → k < 100 → p < 100 →
    length (call_line lines i k p second) ≤ 38
unfolding call_line
call_line_size lines i k p second route trip position =
    let a = trip_size lines i k route trip in
    let b = route_stop_size lines i p route position in
    let c = decimal_size p position in
    let d = time_size second in
    let time = time_text second in
    omega (arith, five_fields (trip_name lines i k) (route_stop lines i p) (decimal p) time time)

stop_lines_size : (lines r : ℕ) → lines ≤ 32 → r < lines → length (stop_lines lines r) ≤ 256
unfolding stop_lines
stop_lines_size lines r few row =
    let all = joined_size lines 8 (stop_line r) (λ c column. stop_line_size r c (omega arith) (omega arith)) in
    omega arith

area_lines_size : (lines r : ℕ) → lines ≤ 32 → r < lines → length (stop_area_lines lines r) ≤ 352
unfolding stop_area_lines
area_lines_size lines r few row =
    let line = λ (c : ℕ) (column : c < lines). area_line_size lines r c (omega arith) (omega arith) in
    let all = joined_size lines 11 (stop_area_line lines r) line in
    omega arith

trip_lines_size : (lines i : ℕ) → i < 100 → length (trip_lines lines i) ≤ 312
unfolding trip_lines
trip_lines_size lines i route =
    joined_size 24 13 (trip_line lines i) (λ k trip. trip_line_size lines i k route (omega arith))

call_lines_size : (lines i k departure hop : ℕ) → lines ≤ 32 → i < 100 → k < 100 →
    length (call_lines lines i k departure hop) ≤ 1216
unfolding call_lines
call_lines_size lines i k departure hop few route trip =
    let all =
    joined_size lines 38 (λ p. call_line lines i k p (departure + p * hop))
    (λ p position. call_line_size lines i k p (departure + p * hop) route trip (omega arith)) in
    omega arith

timed_size : (lines i : ℕ) (pace : Pace) → lines ≤ 32 → i < 100 → length (timed_lines lines i pace) ≤ 29_184
unfolding timed_lines
timed_size lines i pace few route =
    joined_size 24 1216 (λ k. call_lines lines i k (21_600 + 600 * k + 60 * pace.offset) pace.hop)
    (λ k trip. call_lines_size lines i k (21_600 + 600 * k + 60 * pace.offset) pace.hop few route (omega arith))

-- ---- files

pub stops_size : (lines : ℕ) → lines ≤ 32 → length (stops_file lines) ≤ most_bytes
stops_size lines few =
    rw (stops_text lines)
    (file_size stops_header lines 256 (stop_lines lines) (λ r row. stop_lines_size lines r few row) (omega arith))

pub stop_areas_size : (lines : ℕ) → lines ≤ 32 → length (stop_areas_file lines) ≤ most_bytes
stop_areas_size lines few =
    rw (stop_areas_text lines)
    (file_size stop_areas_header lines 352 (stop_area_lines lines) (λ r row. area_lines_size lines r few row)
    (omega arith))

pub routes_size : (lines : ℕ) → lines ≤ 32 → length (routes_file lines) ≤ most_bytes
routes_size lines few =
    rw (routes_text lines)
    (file_size routes_header (2 * lines) 9 (route_line lines) (λ i route. route_line_size lines i (omega arith))
    (omega arith))

pub trips_size : (lines : ℕ) → lines ≤ 32 → length (trips_file lines) ≤ most_bytes
trips_size lines few =
    rw (trips_text lines)
    (file_size trips_header (2 * lines) 312 (trip_lines lines) (λ i route. trip_lines_size lines i (omega arith))
    (omega arith))

pub stop_times_size : (seed lines : ℕ) → lines ≤ 32 → length (stop_times_file seed lines) ≤ most_bytes
stop_times_size seed lines few =
    rw (stop_times_text seed lines)
    (file_size stop_times_header (2 * lines) 29_184 (λ i. timed_lines lines i (pace_of seed i))
    (λ i route. timed_size lines i (pace_of seed i) few (omega arith)) (omega arith))
