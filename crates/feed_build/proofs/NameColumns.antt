-- In accepted tables no name is longer than an id, and no table has too many rows.
use denote.Enum.Bare.{sameb}
use Rattle.std.proofs.Common.{◌≡◌, refl, ◌∙◌, sym, ◌≤◌, ◌<◌, ◌+◌, ℕ, zero, suc, true, false, List, [], fold, take, get_or, arith}
use Rattle.std.specs.Prelude.{if◌then◌else◌}
use Rattle.std.specs.List.{All}
use Rattle.std.proofs.lemmas.List.Sums.{fold_more}
use Rattle.feed_rows.specs.Limits.{most_rows}
use Rattle.feed_files.specs.declared.names.FileName.{FileName}
use Rattle.feed_files.specs.declared.names.FileName.TheVariants as file
use Rattle.feed_files.specs.declared.names.ColumnName.{ColumnName}
use Rattle.feed_files.specs.declared.names.ColumnName.TheVariants.{ServiceId, NetworkId, TimeframeGroupId, FareProductId, LegGroupId}
use Rattle.feed_files.specs.contracts.names.ColumnName.{the_type}
use Rattle.feed_faults.specs.Records.{FileTable, row_count}
use Rattle.feed_faults.specs.FeedTables.{FeedTables, table_in}
use Rattle.feed_faults.specs.AcceptedFeed.{with_column}
use Rattle.feed_soundness.specs.AcceptedTables.{AreFormed}
use Rattle.feed_soundness.proofs.IdColumns as id
use Rattle.feed_build.specs.NameNumbers.{AreShort}
use Rattle.feed_build.specs.declared.names.TheConstants.{NAME_COLUMNS}

-- names with those at one more place, if its column is this one
abbrev pub with_place : FeedTables → ColumnName → List (List ℕ) → FileName × ColumnName → List (List ℕ)
with_place t column names place =
    if sameb the_type place.1 column then with_column names (table_in t place.0) place.1 else names

-- the names in a column at the first places
abbrev pub names_before : FeedTables → ColumnName → ℕ → List (List ℕ)
names_before t column n = fold (with_place t column) [] (take n NAME_COLUMNS)

module _ (t : FeedTables) (column : ColumnName) (i : ℕ) (d : FileName × ColumnName) (lt : i < 9) where
  pub place_taken : sameb the_type (get_or NAME_COLUMNS i d).1 column ≡ true
      → with_column (names_before t column i) (table_in t (get_or NAME_COLUMNS i d).0) (get_or NAME_COLUMNS i d).1 ≡ names_before t column (i + 1)
  place_taken e = sym (fold_more (with_place t column) [] NAME_COLUMNS i d lt ∙ rw e refl)

  pub place_left : sameb the_type (get_or NAME_COLUMNS i d).1 column ≡ false → names_before t column i ≡ names_before t column (i + 1)
  place_left e = sym (fold_more (with_place t column) [] NAME_COLUMNS i d lt ∙ rw e refl)

module _ (t : FeedTables) (formed : AreFormed t) where
  pub few_rows : (name : FileName) (table : FileTable) → table ≡ table_in t name → row_count table ≤ most_rows
  few_rows name table is = rw is (formed name).few

  pub trip_services : AreShort (table_in t file.Trips) ServiceId
  trip_services = λ row lt filled. (id.service_of_trip t formed row lt).1

  pub calendar_services : AreShort (table_in t file.Calendar) ServiceId
  calendar_services = λ row lt filled. (id.service_of_calendar t formed row lt).1

  pub exception_services : AreShort (table_in t file.CalendarDates) ServiceId
  exception_services = λ row lt filled. (id.service_of_exception t formed row lt).1

  pub frame_services : AreShort (table_in t file.Timeframes) ServiceId
  frame_services = λ row lt filled. (id.service_of_frame t formed row lt).1

  pub route_networks : AreShort (table_in t file.Routes) NetworkId
  route_networks = λ row lt filled. (id.own_network_of_route t formed row lt filled).1

  pub networks : AreShort (table_in t file.Networks) NetworkId
  networks = λ row lt filled. (id.network_id t formed row lt).1

  pub frame_groups : AreShort (table_in t file.Timeframes) TimeframeGroupId
  frame_groups = λ row lt filled. (id.group_of_frame t formed row lt).1

  pub products : AreShort (table_in t file.FareProducts) FareProductId
  products = λ row lt filled. (id.product_id t formed row lt).1

  pub leg_groups : AreShort (table_in t file.FareLegRules) LegGroupId
  leg_groups = λ row lt filled. (id.group_of_leg_rule t formed row lt filled).1

  pub all_short : All (λ place. AreShort (table_in t place.0) place.1) NAME_COLUMNS
  all_short zero d lt = trip_services
  all_short (suc zero) d lt = calendar_services
  all_short (suc (suc zero)) d lt = exception_services
  all_short (suc (suc (suc zero))) d lt = frame_services
  all_short (suc (suc (suc (suc zero)))) d lt = route_networks
  all_short (suc (suc (suc (suc (suc zero))))) d lt = networks
  all_short (suc (suc (suc (suc (suc (suc zero)))))) d lt = frame_groups
  all_short (suc (suc (suc (suc (suc (suc (suc zero))))))) d lt = products
  all_short (suc (suc (suc (suc (suc (suc (suc (suc zero)))))))) d lt = leg_groups
  all_short (suc (suc (suc (suc (suc (suc (suc (suc (suc n))))))))) d lt = absurd (omega arith)
