-- The five lists of names of accepted tables, and the columns whose names stand in them.
use Rattle.std.proofs.Common.{◌≡◌, subst, ℕ, ◌+◌, ◌<◌, true, false, List, [], arith}
use Rattle.feed_rows.specs.Limits.{most_rows}
use Rattle.feed_files.specs.declared.names.FileName.{FileName}
use Rattle.feed_files.specs.declared.names.FileName.TheVariants as file
use Rattle.feed_files.specs.declared.names.ColumnName.{ColumnName}
use Rattle.feed_files.specs.declared.names.ColumnName.TheVariants.{ServiceId, NetworkId, TimeframeGroupId, FareProductId, LegGroupId}
use Rattle.feed_rows.specs.SoundNames.{IsIdText, IsNameList}
use Rattle.feed_faults.specs.Records.{FileTable, row_count, field, is_filled}
use Rattle.feed_faults.specs.FeedTables.{FeedTables, table_in}
use Rattle.feed_faults.specs.AcceptedFeed.{with_column, service_names, network_names, frame_names, product_names, group_names, rows_of_tables}
use Rattle.feed_soundness.specs.AcceptedTables.{IsFormed, AreFormed}
use Rattle.feed_faults.specs.RowKeys.{is_unknown}
use Rattle.feed_soundness.proofs.KeyLaws.{known}
use Rattle.feed_soundness.proofs.IdColumns.{service_of_trip, service_of_calendar, service_of_exception, service_of_frame, own_network_of_route, network_id, group_of_frame, product_id, group_of_leg_rule}
use Rattle.feed_soundness.proofs.NameLaws.{IsNamed, MayBeNamed, AreNames, no_names, column_names, name_list, keeps_names, takes_names}

-- the names of one file more
one_file : (most : ℕ) (names : List (List ℕ)) (name : FileName) (table : FileTable) (column : ColumnName) → IsFormed name table
    → ((row : ℕ) → row < row_count table → is_filled (field table row column) ≡ true → IsIdText (field table row column))
    → AreNames most names → AreNames (most + most_rows) (with_column names table column)
one_file most names name table column formed ids are =
    let all = column_names most names table column (row_count table) are ids in
    let long = all.few in
    let few = formed.few in
    record { few = omega arith; texts = all.texts; no_doubles = all.no_doubles }

-- the names of one file alone
one_list : (name : FileName) (table : FileTable) (column : ColumnName) → IsFormed name table
    → ((row : ℕ) → row < row_count table → is_filled (field table row column) ≡ true → IsIdText (field table row column))
    → IsNameList (with_column [] table column)
one_list name table column formed ids = name_list most_rows _ (one_file 0 [] name table column formed ids no_names) (omega arith)

-- each list of names
module _ (t : FeedTables) (formed : AreFormed t) where
  pub services_listed : IsNameList (rows_of_tables t).service_names
  unfolding rows_of_tables service_names
  services_listed = name_list 16_000_000 _
      (one_file 12_000_000 _ _ _ ServiceId (formed file.Timeframes) (λ row lt filled. (service_of_frame t formed row lt).3)
      (one_file 8_000_000 _ _ _ ServiceId (formed file.CalendarDates) (λ row lt filled. (service_of_exception t formed row lt).3)
      (one_file most_rows _ _ _ ServiceId (formed file.Calendar) (λ row lt filled. (service_of_calendar t formed row lt).3)
      (one_file 0 _ _ _ ServiceId (formed file.Trips) (λ row lt filled. (service_of_trip t formed row lt).3) no_names)))) (omega arith)

  pub networks_listed : IsNameList (rows_of_tables t).network_names
  unfolding rows_of_tables network_names
  networks_listed = name_list 8_000_000 _
      (one_file most_rows _ _ _ NetworkId (formed file.Networks) (λ row lt filled. (network_id t formed row lt).3)
      (one_file 0 _ _ _ NetworkId (formed file.Routes) (λ row lt filled. (own_network_of_route t formed row lt filled).2) no_names)) (omega arith)

  pub frames_listed : IsNameList (rows_of_tables t).frame_names
  unfolding rows_of_tables frame_names
  frames_listed = one_list _ _ _ (formed file.Timeframes) (λ row lt filled. (group_of_frame t formed row lt).3)

  pub products_listed : IsNameList (rows_of_tables t).product_names
  unfolding rows_of_tables product_names
  products_listed = one_list _ _ _ (formed file.FareProducts) (λ row lt filled. (product_id t formed row lt).3)

  pub groups_listed : IsNameList (rows_of_tables t).group_names
  unfolding rows_of_tables group_names
  groups_listed = one_list _ _ _ (formed file.FareLegRules) (λ row lt filled. (group_of_leg_rule t formed row lt filled).2)

-- the fields of a column are among these names, each of them or where it is filled
abbrev pub AreNamed : FeedTables → FileName → ColumnName → List (List ℕ) → Type 0
AreNamed t name column names = (row : ℕ) → row < row_count (table_in t name) → IsNamed names (field (table_in t name) row column)

abbrev pub AreNamedIfFilled : FeedTables → FileName → ColumnName → List (List ℕ) → Type 0
AreNamedIfFilled t name column names =
    (row : ℕ) → row < row_count (table_in t name) → MayBeNamed names (field (table_in t name) row column)

-- a name among those before a column is among those with it
pub kept : {names : List (List ℕ)} {name : List ℕ} (table : FileTable) (column : ColumnName) → IsNamed names name
    → IsNamed (with_column names table column) name
kept {names} {name} table column named = keeps_names names table column (row_count table) name named

module _ (t : FeedTables) (formed : AreFormed t) where
  pub trip_service_named : AreNamed t file.Trips ServiceId (service_names t)
  unfolding service_names
  trip_service_named row lt =
      kept (table_in t file.Timeframes) ServiceId (kept (table_in t file.CalendarDates) ServiceId (kept (table_in t file.Calendar) ServiceId
      (takes_names [] _ _ _ row lt (service_of_trip t formed row lt).2)))

  pub calendar_service_named : AreNamed t file.Calendar ServiceId (service_names t)
  unfolding service_names
  calendar_service_named row lt =
      kept (table_in t file.Timeframes) ServiceId (kept (table_in t file.CalendarDates) ServiceId
      (takes_names _ _ _ _ row lt (service_of_calendar t formed row lt).2))

  pub exception_service_named : AreNamed t file.CalendarDates ServiceId (service_names t)
  unfolding service_names
  exception_service_named row lt =
      kept (table_in t file.Timeframes) ServiceId (takes_names _ _ _ _ row lt (service_of_exception t formed row lt).2)

  pub frame_service_named : AreNamed t file.Timeframes ServiceId (service_names t)
  unfolding service_names
  frame_service_named row lt = takes_names _ _ _ _ row lt (service_of_frame t formed row lt).2

  pub frame_group_named : AreNamed t file.Timeframes TimeframeGroupId (frame_names t)
  unfolding frame_names
  frame_group_named row lt = takes_names _ _ _ _ row lt (group_of_frame t formed row lt).2

  pub product_named : AreNamed t file.FareProducts FareProductId (product_names t)
  unfolding product_names
  product_named row lt = takes_names _ _ _ _ row lt (product_id t formed row lt).2

pub own_network_named : (t : FeedTables) → AreNamedIfFilled t file.Routes NetworkId (network_names t)
unfolding network_names
own_network_named t row lt filled = kept (table_in t file.Networks) NetworkId (takes_names [] _ _ _ row lt filled)

pub leg_group_named : (t : FeedTables) → AreNamedIfFilled t file.FareLegRules LegGroupId (group_names t)
unfolding group_names
leg_group_named t row lt filled = takes_names _ _ _ _ row lt filled

-- an id that a column has is among the names with it
pub named_in : (names : List (List ℕ)) (table : FileTable) (column : ColumnName) (id : List ℕ) → is_filled id ≡ true
    → is_unknown table column id ≡ false → IsNamed (with_column names table column) id
named_in names table column id filled there =
    let place = known table column id filled there in
    subst (IsNamed (with_column names table column)) place.has (takes_names names table column (row_count table) _ place.within (rw place.has filled))
