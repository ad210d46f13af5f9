-- What a check unfolds to compute the definitions of this crate on literals.
use Rattle.std.specs.Prelude.{⊤}
use lib.Utf8.{encode}
use Rattle.std.specs.Str.{is_utf8, chars}
use Rattle.csv.proofs.OnLiterals.{csv_on_literals}
use Rattle.feed_files.specs.HeldFiles.{held}
use Rattle.feed_faults.specs.Records.{cut, table_of_bytes, column_of, field, is_long}
use Rattle.feed_rows.specs.Numerals.{number_value}
use Rattle.feed_rows.specs.TimeGrammar.{time_value}
use Rattle.feed_faults.specs.FieldGrammars.{is_id, int_value, count_value, date_value, currency_decimals, fraction_value, unsigned_amount, amount_value}
use Rattle.feed_faults.specs.FormFaults.{is_twice, doubled_column, missing_column, header_fault, names_flex_place, field_misfit, is_passed_over, form_fault_of_row, form_fault_of_rows, form_fault_of_table, form_fault_of_bytes, form_fault, first_form_fault}
use Rattle.feed_faults.specs.FeedTables.{tables_of}
use Rattle.feed_faults.specs.FieldValues.{int_or_zero, time_or, day_or_zero, amount_or_zero}
use Rattle.feed_faults.specs.RowKeys.{row_of, is_doubled}
use Rattle.feed_faults.specs.StopRelations.{has_parent, is_at_station}
use Rattle.feed_faults.specs.StopTimeRelations.{stop_time_of, stop_times_of, same_place, comes_before, is_first, is_last, is_end_time_missing, is_nearest_before, do_times_decrease, is_at_platform}
use Rattle.feed_faults.specs.ServiceRelations.{are_dates_reversed, same_exception, same_start}
use Rattle.feed_faults.specs.NetworkRelations.{has_own_networks, are_networks_forbidden}
use Rattle.feed_faults.specs.FareRelations.{do_frames_overlap, is_bad_frame, same_product, is_currency_mixed, is_count_misplaced, is_limit_half, is_one_stop_named}
use Rattle.feed_faults.specs.RowChecks.{relation_fault_of_row}
use Rattle.feed_faults.specs.FirstFault.{relation_fault, first_relation_fault, first_fault}
use Rattle.feed_faults.specs.AcceptedFeed.{place_of_name, with_name, service_names, network_names, frame_names, product_names, group_names, accepted_parent, stop_row, network_of_route, route_row, trip_row, stop_time_row, service_row, exception_row, frequency_row, link_row, area_row, stop_area_row, timeframe_row, rider_row, medium_row, product_row, leg_rule_row, limit_of, transfer_rule_row, join_row, feed_currency, feed_decimals, rows_of_tables, feed_of}

-- the grammars of fields
unfoldable pub grammars_on_literals : ⊤
unfolding is_id number_value int_value count_value time_value date_value currency_decimals fraction_value unsigned_amount amount_value
grammars_on_literals = tt

-- the first pass over a table
unfoldable pub forms_on_literals : ⊤
unfolding grammars_on_literals column_of field is_long is_twice doubled_column missing_column header_fault names_flex_place field_misfit is_passed_over form_fault_of_row form_fault_of_rows form_fault_of_table
forms_on_literals = tt

-- the second pass over tables
unfoldable pub relations_on_literals : ⊤
unfolding grammars_on_literals column_of field is_passed_over int_or_zero time_or day_or_zero amount_or_zero row_of is_doubled
    has_parent is_at_station stop_time_of stop_times_of same_place comes_before is_first is_last is_end_time_missing is_nearest_before do_times_decrease is_at_platform
    are_dates_reversed same_exception same_start has_own_networks are_networks_forbidden do_frames_overlap is_bad_frame same_product is_currency_mixed is_count_misplaced is_limit_half is_one_stop_named
    relation_fault_of_row relation_fault first_relation_fault
relations_on_literals = tt

-- the rows of tables
unfoldable pub rows_on_literals : ⊤
unfolding grammars_on_literals column_of field is_passed_over int_or_zero time_or day_or_zero amount_or_zero row_of
    place_of_name with_name service_names network_names frame_names product_names group_names accepted_parent stop_row network_of_route route_row trip_row stop_time_row service_row exception_row frequency_row link_row area_row stop_area_row timeframe_row rider_row medium_row product_row leg_rule_row limit_of transfer_rule_row join_row feed_currency feed_decimals rows_of_tables
rows_on_literals = tt

-- the tables of bytes
unfoldable pub bytes_on_literals : ⊤
unfolding csv_on_literals is_utf8 chars encode held cut table_of_bytes form_fault_of_bytes tables_of
bytes_on_literals = tt

-- the first fault and the rows of a folder's bytes
unfoldable pub feeds_on_literals : ⊤
unfolding bytes_on_literals forms_on_literals relations_on_literals rows_on_literals form_fault first_form_fault first_fault feed_of
feeds_on_literals = tt
