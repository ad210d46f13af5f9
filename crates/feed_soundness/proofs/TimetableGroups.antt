-- The stops, routes, trips, stop times, services, frequencies and links of accepted tables are sound, row by row.
use Rattle.std.proofs.Common.{◌≡◌, refl, sym, ℕ, ◌<◌, ◌≤◌, Bool, true, false, length, arith}
use Rattle.std.specs.Prelude.{◌≢◌, ◌&&◌, ◌==◌, not, ℤ, int_lt, ◌≤ℤ◌}
use Rattle.std.specs.Option.{ForSome}
use Rattle.std.proofs.lemmas.Bool.{eqb-true, not-false, not-true, and_from, and_parts, lt-ltb, eq-eqb}
use Rattle.std.proofs.lemmas.Int.{ints}
use Rattle.std.proofs.lemmas.Option.{none-some, cond_some}
use Rattle.transit_base.specs.Limits.{most_time}
use Rattle.transit_base.specs.declared.numbers.StopId.{StopId}
use Rattle.feed_files.specs.declared.names.FileName.TheVariants as file
use Rattle.feed_files.specs.declared.names.ColumnName.TheVariants as column
use Rattle.plain_laws.specs.Plain.{ForItem}
use Rattle.feed_rows.specs.SoundNames.{IsIdText}
use Rattle.feed_rows.specs.SoundTimetable.{IsCalendarDay, AreSoundStops, AreSoundRoutes, AreSoundTrips, AreSoundStopTimes, AreSoundServices, AreSoundExceptions, AreSoundFrequencies, AreSoundLinks}
use Rattle.feed_faults.specs.declared.checks.IdColumn.TheVariants as ids
use Rattle.feed_faults.specs.Records.{FileTable, row_count, field, is_filled}
use Rattle.feed_faults.specs.FieldGrammars.{most_int}
use Rattle.feed_soundness.proofs.RuleShapes.{int, date}
use Rattle.feed_faults.specs.FormFaults.{is_passed_over}
use Rattle.feed_faults.specs.FeedTables.{FeedTables, table_in}
use Rattle.feed_faults.specs.FieldValues.{day_or_zero, stop_kind}
use Rattle.feed_faults.specs.RowKeys.{is_unknown}
use Rattle.feed_faults.specs.StopRelations.{has_parent, is_at_station, is_parent_good}
use Rattle.feed_faults.specs.ServiceRelations.{are_dates_reversed, same_exception, same_start}
use Rattle.feed_faults.specs.StopTimeRelations.{is_at_platform}
use Rattle.feed_faults.specs.AcceptedFeed.{row_number, service_names, network_names, network_of_route, accepted_parent, stop_row, route_row, trip_row, stop_time_row, service_row, exception_row, frequency_row, link_row, rows_of_tables}
use Rattle.feed_soundness.specs.AcceptedTables.{AreFormed, AreRelated}
use Rattle.plain_laws.proofs.Laws.{length-list_below, All-list_below, AllPairs-list_below, All-picks_below, length-picks_below, get_or-list_below, rest_fails, eq-bytes_eq, eq-int_same}
use Rattle.feed_soundness.proofs.FieldLaws.{must_at, few_rows}
use Rattle.feed_faults.proofs.TimeLaws.{time_good}
use Rattle.feed_soundness.proofs.ValueLaws.{int_good, int_small, time_small, day_good}
use Rattle.feed_soundness.proofs.KeyLaws.{IsKnown, known, same_number, never_both}
use Rattle.feed_soundness.proofs.NameLaws.{same_name}
use Rattle.feed_soundness.proofs.IdColumns.{stop_id, route_id, trip_id, new_ids, new_keys}
use Rattle.feed_soundness.proofs.NameGroups as names
use Rattle.feed_soundness.proofs.References.{trip_route_known, call_trip_known, call_stop_known, frequency_trip_known, transfer_from_known, transfer_to_known, route_network_named}

-- the parent of a stop
record IsParent (stops : FileTable) (row : ℕ) (parent : StopId) : Type 0 where
  platform : stop_kind stops row ≡ 0
  within : parent.0 < row_count stops
  station : stop_kind stops parent.0 ≡ 1

module _ (stops : FileTable) (row : ℕ) where
  at_station : IsKnown stops column.StopId (field stops row column.ParentStation) → is_at_station stops row ≡ true
      → stop_kind stops (row_number stops column.StopId (field stops row column.ParentStation)) ≡ 1
  unfolding is_at_station
  at_station place there =
      eqb-true (stop_kind stops (row_number stops column.StopId (field stops row column.ParentStation))) 1 (rw place.found at there)

  -- the parent of a platform is looked at
  names_parent : stop_kind stops row ≡ 0 → is_filled (field stops row column.ParentStation) ≡ true → has_parent stops row ≡ true
  unfolding has_parent
  names_parent kind filled = and_from _ _ (lt-ltb (stop_kind stops row) 2 (omega arith)) filled

  parent_told : (has_parent stops row && is_unknown stops column.StopId (field stops row column.ParentStation)) ≡ false
      → (has_parent stops row && not (is_parent_good stops row)) ≡ false
      → ForSome (accepted_parent stops row) (IsParent stops row)
  unfolding accepted_parent
  parent_told found good parent e = step (stop_kind stops row == 0) refl
    where
      step : (b : Bool) → (stop_kind stops row == 0) ≡ b → IsParent stops row parent
      step false other = absurd (none-some parent (rw other at e))
      step true platform =
          let kind = eqb-true (stop_kind stops row) 0 platform in
          let is = cond_some (is_filled (field stops row column.ParentStation)) _ parent (rw platform at e) in
          let named = names_parent kind is.0 in
          let place = known stops column.StopId _ is.0 (rest_fails (has_parent stops row) _ found named) in
          let good = not-false (is_parent_good stops row) (rest_fails (has_parent stops row) _ good named) in
          rw (← is.1) (record { platform = kind; within = place.within; station = at_station place (and_parts _ _ good).1 })

-- days in order
not_reversed : (first last : ℤ) → int_lt last first ≡ false → first ≤ℤ last
not_reversed first last e = grind (arith, ints)

module _ (t : FeedTables) (formed : AreFormed t) (related : AreRelated t) where
  -- stops.txt
  stop_parent : (row : ℕ) → row < row_count (table_in t file.Stops)
      → ForSome (accepted_parent (table_in t file.Stops) row) (IsParent (table_in t file.Stops) row)
  stop_parent row lt = parent_told _ _ (related file.Stops row 1 _ lt refl) (related file.Stops row 2 _ lt refl)

  pub stops_sound : AreSoundStops (rows_of_tables t)
  unfolding rows_of_tables stop_row
  stops_sound =
      let rows = row_count (table_in t file.Stops) in
      let row = stop_row t in
      record {
        few = few_rows row (formed file.Stops);
        ids = All-list_below (λ s. IsIdText s.id) rows row (λ i lt. (stop_id t formed i lt).3);
        no_doubles = AllPairs-list_below (λ s u. s.id ≢ u.id) rows row (new_ids t related ids.Stop _ _ refl);
        kinds = All-list_below (λ s. s.kind ≤ 4) rows row
            (λ i lt. int_small 0 4 _);
        parents = All-list_below (λ s. ForSome s.parent (λ p. p.0 < length (rows_of_tables t).stops)) rows row
            (λ i lt p e. rw length-list_below (stop_parent i lt p e).within);
        stations = All-list_below (λ s. ForSome s.parent (λ p. ForItem (rows_of_tables t).stops p.0 (λ u. u.kind ≡ 1))) rows row
            (λ i lt p e d within. let told = stop_parent i lt p e in rw (get_or-list_below (row_count (table_in t file.Stops)) (stop_row t) p.0 d told.within) told.station);
        platforms = All-list_below (λ s. ForSome s.parent (λ p. s.kind ≡ 0)) rows row (λ i lt p e. (stop_parent i lt p e).platform);
      }

  -- routes.txt
  route_network_told : (row : ℕ) → row < row_count (table_in t file.Routes)
      → ForSome (route_row t row).network (λ n. n.0 < length (network_names t))
  unfolding route_row
  route_network_told row lt n e =
      let is = cond_some (is_filled (network_of_route t row)) _ n e in
      rw (← is.1) (route_network_named t formed related row lt is.0).within

  pub routes_sound : AreSoundRoutes (rows_of_tables t)
  unfolding rows_of_tables route_row
  routes_sound =
      let rows = row_count (table_in t file.Routes) in
      let row = route_row t in
      record {
        few = few_rows row (formed file.Routes);
        ids = All-list_below (λ r. IsIdText r.id) rows row (λ i lt. (route_id t formed i lt).3);
        no_doubles = AllPairs-list_below (λ r s. r.id ≢ s.id) rows row (new_ids t related ids.Route _ _ refl);
        networks = All-list_below (λ r. ForSome r.network (λ n. n.0 < length (network_names t))) rows row route_network_told;
      }

  -- trips.txt
  pub trips_sound : AreSoundTrips (rows_of_tables t)
  unfolding rows_of_tables trip_row
  trips_sound =
      let rows = row_count (table_in t file.Trips) in
      let row = trip_row t in
      record {
        few = few_rows row (formed file.Trips);
        ids = All-list_below (λ u. IsIdText u.id) rows row (λ i lt. (trip_id t formed i lt).3);
        no_doubles = AllPairs-list_below (λ u v. u.id ≢ v.id) rows row (new_ids t related ids.Trip _ _ refl);
        routes = All-list_below (λ u. u.route.0 < length (rows_of_tables t).routes) rows row
            (λ i lt. rw length-list_below (trip_route_known t formed related i lt).within);
        services = All-list_below (λ u. u.service.0 < length (service_names t)) rows row
            (λ i lt. (names.trip_service_named t formed i lt).within);
      }

  -- stop_times.txt: the stop is a platform
  call_platform : (row : ℕ) → row < row_count (table_in t file.StopTimes)
      → stop_kind (table_in t file.Stops) (row_number (table_in t file.Stops) column.StopId (field (table_in t file.StopTimes) row column.StopId)) ≡ 0
  unfolding is_at_platform
  call_platform row lt =
      let platform = not-false (is_at_platform (table_in t file.Stops) (table_in t file.StopTimes) row) (related file.StopTimes row 2 _ lt refl) in
      let place = call_stop_known t formed related row lt in
      eqb-true _ 0 (rw place.found at platform)

  pub stop_times_sound : AreSoundStopTimes (rows_of_tables t)
  unfolding rows_of_tables stop_time_row stop_row
  stop_times_sound =
      let rows = row_count (table_in t file.StopTimes) in
      let row = stop_time_row t in
      record {
        few = few_rows row (formed file.StopTimes);
        trips = All-list_below (λ c. c.trip.0 < length (rows_of_tables t).trips) rows row
            (λ i lt. rw length-list_below (call_trip_known t formed related i lt).within);
        stops = All-list_below (λ c. c.stop.0 < length (rows_of_tables t).stops) rows row
            (λ i lt. rw length-list_below (call_stop_known t formed related i lt).within);
        platforms = All-list_below (λ c. ForItem (rows_of_tables t).stops c.stop.0 (λ s. s.kind ≡ 0)) rows row
            (λ i lt d within. rw (get_or-list_below (row_count (table_in t file.Stops)) (stop_row t) _ d (call_stop_known t formed related i lt).within) (call_platform i lt));
        sequences = All-list_below (λ c. c.sequence ≤ 2_147_483_647) rows row
            (λ i lt. int_small 0 most_int _);
        arrivals = All-list_below (λ c. ForSome c.arrival (λ s. s ≤ most_time)) rows row (λ i lt. time_good most_time _);
        departures = All-list_below (λ c. ForSome c.departure (λ s. s ≤ most_time)) rows row (λ i lt. time_good most_time _);
      }

  -- calendar.txt
  service_dates : (row : ℕ) → row < row_count (table_in t file.Calendar)
      → day_or_zero (field (table_in t file.Calendar) row column.StartDate) ≤ℤ day_or_zero (field (table_in t file.Calendar) row column.EndDate)
  unfolding are_dates_reversed
  service_dates row lt = not_reversed _ _ (related file.Calendar row 1 _ lt refl)

  pub services_sound : AreSoundServices (rows_of_tables t)
  unfolding rows_of_tables service_row
  services_sound =
      let rows = row_count (table_in t file.Calendar) in
      let row = service_row t in
      record {
        few = few_rows row (formed file.Calendar);
        names = All-list_below (λ s. s.service.0 < length (service_names t)) rows row
            (λ i lt. (names.calendar_service_named t formed i lt).within);
        no_doubles = AllPairs-list_below (λ s u. s.service.0 ≢ u.service.0) rows row
            (λ i j lt within same. new_ids t related ids.Calendar _ _ refl i j lt within
            (same_name _ _ _ (names.calendar_service_named t formed i (omega arith)) (names.calendar_service_named t formed j within) same));
        weekdays = All-list_below (λ s. length s.days ≡ 7) rows row (λ i lt. refl);
        firsts = All-list_below (λ s. IsCalendarDay s.first) rows row
            (λ i lt. day_good _ (must_at file.Calendar _ i 8 column.StartDate date (formed file.Calendar) lt refl).fit);
        lasts = All-list_below (λ s. IsCalendarDay s.last) rows row
            (λ i lt. day_good _ (must_at file.Calendar _ i 9 column.EndDate date (formed file.Calendar) lt refl).fit);
        ordered = All-list_below (λ s. s.first.0 ≤ℤ s.last.0) rows row service_dates;
      }

  -- calendar_dates.txt: no two exceptions have one service and one day
  exceptions_apart : (i j : ℕ) → i < j → j < row_count (table_in t file.CalendarDates)
      → (exception_row t i).service.0 ≡ (exception_row t j).service.0 → (exception_row t i).day.0 ≢ (exception_row t j).day.0
  unfolding exception_row same_exception
  exceptions_apart i j lt within same days =
      let id = same_name _ _ _ (names.exception_service_named t formed i (omega arith)) (names.exception_service_named t formed j within) same in
      never_both (and_from _ _ (eq-bytes_eq _ _ (sym id)) (eq-int_same _ _ (sym days)))
      (new_keys t related file.CalendarDates 0 _ _ refl i j lt within)

  pub exceptions_sound : AreSoundExceptions (rows_of_tables t)
  unfolding rows_of_tables exception_row
  exceptions_sound =
      let rows = row_count (table_in t file.CalendarDates) in
      let row = exception_row t in
      record {
        few = few_rows row (formed file.CalendarDates);
        services = All-list_below (λ e. e.service.0 < length (service_names t)) rows row
            (λ i lt. (names.exception_service_named t formed i lt).within);
        no_doubles = AllPairs-list_below (λ e f. e.service.0 ≡ f.service.0 → e.day.0 ≢ f.day.0) rows row exceptions_apart;
        days = All-list_below (λ e. IsCalendarDay e.day) rows row
            (λ i lt. day_good _ (must_at file.CalendarDates _ i 1 column.Date date (formed file.CalendarDates) lt refl).fit);
      }

  -- frequencies.txt: no two frequencies have one trip and one start
  frequencies_apart : (i j : ℕ) → i < j → j < row_count (table_in t file.Frequencies)
      → (frequency_row t i).trip.0 ≡ (frequency_row t j).trip.0 → (frequency_row t i).start ≢ (frequency_row t j).start
  unfolding frequency_row same_start
  frequencies_apart i j lt within same starts =
      let id = same_number _ _ _ _ (frequency_trip_known t formed related i (omega arith)) (frequency_trip_known t formed related j within) same in
      never_both (and_from _ _ (eq-bytes_eq _ _ (sym id)) (eq-eqb _ _ (sym starts)))
      (new_keys t related file.Frequencies 1 _ _ refl i j lt within)

  pub frequencies_sound : AreSoundFrequencies (rows_of_tables t)
  unfolding rows_of_tables frequency_row
  frequencies_sound =
      let rows = row_count (table_in t file.Frequencies) in
      let row = frequency_row t in
      record {
        few = few_rows row (formed file.Frequencies);
        trips = All-list_below (λ f. f.trip.0 < length (rows_of_tables t).trips) rows row
            (λ i lt. rw length-list_below (frequency_trip_known t formed related i lt).within);
        no_doubles = AllPairs-list_below (λ f g. f.trip.0 ≡ g.trip.0 → f.start ≢ g.start) rows row frequencies_apart;
        starts = All-list_below (λ f. f.start ≤ most_time) rows row
            (λ i lt. time_small 0 most_time _ (omega arith));
        ends = All-list_below (λ f. f.end ≤ most_time) rows row
            (λ i lt. time_small 0 most_time _ (omega arith));
        headways = All-list_below (λ f. (1 ≤ f.headway) × (f.headway ≤ 2_147_483_647)) rows row
            (λ i lt. let good = int_good 1 most_int _ (must_at file.Frequencies _ i 3 column.HeadwaySecs (int 1 most_int) (formed file.Frequencies) lt refl).fit in
            (good.low, good.high));
      }

  -- transfers.txt
  pub links_sound : AreSoundLinks (rows_of_tables t)
  unfolding rows_of_tables link_row
  links_sound =
      let rows = row_count (table_in t file.Transfers) in
      let taken = λ (row : ℕ). not (is_passed_over (field (table_in t file.Transfers) row)) in
      record {
        few = let long = length-picks_below rows taken (link_row t) in let few = (formed file.Transfers).few in omega arith;
        froms = All-picks_below (λ l. l.from.0 < length (rows_of_tables t).stops) rows taken (link_row t)
            (λ i lt is. rw length-list_below (transfer_from_known t formed related i lt (not-true _ is)).within);
        tos = All-picks_below (λ l. l.to.0 < length (rows_of_tables t).stops) rows taken (link_row t)
            (λ i lt is. rw length-list_below (transfer_to_known t formed related i lt (not-true _ is)).within);
        seconds = All-picks_below (λ l. l.seconds ≤ 2_147_483_647) rows taken (link_row t)
            (λ i lt is. int_small 0 most_int _);
      }
