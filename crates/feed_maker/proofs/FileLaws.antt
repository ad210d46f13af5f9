-- The files of a generated feed are their headers with their lines.
use Rattle.std.proofs.Common.{◌≡◌, refl, ap, ◌∙◌, ℕ, zero, suc, ◌*◌, List, [], ◌∷◌, ◌++◌}
use Rattle.std.specs.Prelude.{codes}
use Rattle.std.specs.List.{flat_map}
use Rattle.std.proofs.lemmas.List.{append-nil}
use Rattle.std.proofs.lemmas.List.Concat.{flat_map-append}
use Rattle.plain_laws.specs.Plain.{list_below, joined_below}
use Rattle.plain_laws.proofs.Laws.{joined_below-same}
use Rattle.feed_rows.specs.GeneratedFeed.{stop_name, route_name, network_name, trip_name, area_name, row_text, generated_stop_time_row, stops_file, routes_file, trips_file, stop_times_file, stop_areas_file}
use Rattle.feed_maker.specs.Draws.{pace_of}
use Rattle.feed_maker.specs.FileTexts.{stops_header, stop_areas_header, routes_header, trips_header, stop_times_header, stop_line, stop_lines, stop_area_line, stop_area_lines, route_line, trip_line, trip_lines, call_line, call_lines, timed_lines}

-- rows, by one number, by two and by three
abbrev Rows : Type 0
Rows = ℕ → List (List ℕ)

abbrev Tables : Type 0
Tables = ℕ → ℕ → List (List ℕ)

abbrev Stacks : Type 0
Stacks = ℕ → ℕ → ℕ → List (List ℕ)

-- the text of rows that are listed
rows_listed : (n : ℕ) (f : Rows) → flat_map row_text (list_below n f) ≡ joined_below n (λ i. row_text (f i))
rows_listed zero f = refl
rows_listed (suc n) f =
    rw (flat_map-append row_text (list_below n f) (f n ∷ []), rows_listed n f)
    (ap (λ text. joined_below n (λ i. row_text (f i)) ++ text) (append-nil (row_text (f n))))

-- the text of rows that are joined
rows_joined : (n : ℕ) (f : ℕ → List (List (List ℕ))) →
    flat_map row_text (joined_below n f) ≡ joined_below n (λ i. flat_map row_text (f i))
rows_joined zero f = refl
rows_joined (suc n) f = rw (flat_map-append row_text (joined_below n f) (f n), rows_joined n f) refl

-- the text of lists of rows that are joined
abbrev lists_text : ℕ → ℕ → Tables → List ℕ
lists_text n m f = joined_below n (λ i. joined_below m (λ k. row_text (f i k)))

lists_joined : (n m : ℕ) (f : Tables) → flat_map row_text (joined_below n (λ i. list_below m (f i))) ≡ lists_text n m f
lists_joined n m f =
    rows_joined n (λ i. list_below m (f i))
    ∙ joined_below-same n (λ i. flat_map row_text (list_below m (f i))) (λ i. joined_below m (λ k. row_text (f i k)))
    (λ i lt. rows_listed m (f i))

-- the text of such lists that are joined again
joins_joined : (n m l : ℕ) (f : Stacks) →
    flat_map row_text (joined_below n (λ i. joined_below m (λ k. list_below l (f i k))))
    ≡ joined_below n (λ i. lists_text m l (f i))
joins_joined n m l f =
    rows_joined n (λ i. joined_below m (λ k. list_below l (f i k)))
    ∙ joined_below-same n (λ i. flat_map row_text (joined_below m (λ k. list_below l (f i k))))
    (λ i. lists_text m l (f i)) (λ i lt. lists_joined m l (f i))

-- ---- files

pub stops_text : (lines : ℕ) → stops_file lines ≡ stops_header ++ joined_below lines (stop_lines lines)
unfolding stops_file stop_lines stop_line
stops_text lines = ap (λ text. stops_header ++ text) (lists_joined lines lines (λ r c. stop_name r c ∷ []))

pub stop_areas_text : (lines : ℕ) →
    stop_areas_file lines ≡ stop_areas_header ++ joined_below lines (stop_area_lines lines)
unfolding stop_areas_file stop_area_lines stop_area_line
stop_areas_text lines =
    ap (λ text. stop_areas_header ++ text)
    (lists_joined lines lines (λ r c. area_name lines r c ∷ stop_name r c ∷ []))

pub routes_text : (lines : ℕ) → routes_file lines ≡ routes_header ++ joined_below (2 * lines) (route_line lines)
unfolding routes_file route_line
routes_text lines =
    ap (λ text. routes_header ++ text) (rows_listed (2 * lines) (λ i. route_name lines i ∷ network_name i ∷ []))

pub trips_text : (lines : ℕ) → trips_file lines ≡ trips_header ++ joined_below (2 * lines) (trip_lines lines)
unfolding trips_file trip_lines trip_line
trips_text lines =
    ap (λ text. trips_header ++ text)
    (lists_joined (2 * lines) 24 (λ i k. route_name lines i ∷ codes "W" ∷ trip_name lines i k ∷ []))

pub stop_times_text : (seed lines : ℕ) →
    stop_times_file seed lines
    ≡ stop_times_header ++ joined_below (2 * lines) (λ i. timed_lines lines i (pace_of seed i))
unfolding stop_times_file timed_lines call_lines call_line pace_of
stop_times_text seed lines =
    ap (λ text. stop_times_header ++ text) (joins_joined (2 * lines) 24 lines (generated_stop_time_row seed lines))
