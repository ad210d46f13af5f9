-- The columns of ids: in accepted tables each field of them that is filled is an id, of 1 to 255 bytes, and none is empty
-- where the column must be there.
use Rattle.std.proofs.Common.{List, length, ◌≤◌, ◌≡◌, refl, ℕ, ◌<◌, true, false}
use Rattle.std.specs.Prelude.{Some, slice_get, ◌≢◌}
use Rattle.feed_files.specs.declared.names.FileName.{FileName}
use Rattle.feed_files.specs.declared.names.FileName.TheVariants as file
use Rattle.feed_files.specs.declared.names.ColumnName.{ColumnName}
use Rattle.feed_files.specs.declared.names.ColumnName.TheVariants.{StopId, RouteId, ServiceId, TripId, NetworkId, TimeframeGroupId, FareProductId, LegGroupId}
use Rattle.feed_files.specs.declared.faults.FaultKind.{FaultKind}
use Rattle.feed_rows.specs.SoundNames.{IsIdText}
use Rattle.feed_faults.specs.declared.checks.IdColumn.{IdColumn}
use Rattle.feed_faults.specs.declared.checks.RowCheck.TheVariants.{NewId, NewKey}
use Rattle.feed_faults.specs.Records.{FileTable, row_count, field, is_filled}
use Rattle.feed_soundness.proofs.RuleShapes.{must, may, id}
use Rattle.feed_faults.specs.FormFaults.{judged_columns}
use Rattle.feed_faults.specs.FeedTables.{FeedTables, table_in}
use Rattle.feed_faults.specs.FileColumns.{checks_of}
use Rattle.feed_faults.specs.RowChecks.{id_place, same_key}
use Rattle.feed_soundness.specs.AcceptedTables.{AreFormed, AreRelated}
use Rattle.feed_soundness.proofs.FieldLaws.{IsGood, must_at, flex_at, may_at}
use Rattle.feed_soundness.proofs.KeyLaws.{ids_apart, apart}
use Rattle.feed_soundness.proofs.ValueLaws.{id_text}

-- the text is an id: its size, as callers need it, and the whole
abbrev pub IsId : List ℕ → Type 0
IsId text = (1 ≤ length text) × (length text ≤ 255) × IsIdText text

-- the field is an id, and so it is filled
abbrev pub IsIdField : FileTable → ℕ → ColumnName → Type 0
IsIdField table row name =
    (1 ≤ length (field table row name)) × (length (field table row name) ≤ 255) × (is_filled (field table row name) ≡ true) × IsIdText (field table row name)

-- the field is an id where it is filled
abbrev pub MayBeId : FileTable → ℕ → ColumnName → Type 0
MayBeId table row name = is_filled (field table row name) ≡ true → IsId (field table row name)

good_id : (table : FileTable) (row : ℕ) (name : ColumnName) → IsGood table row name id → IsIdField table row name
good_id table row name good = let text = id_text (field table row name) good.fit in (text.filled, text.short, good.filled, text)

module _ (t : FeedTables) (formed : AreFormed t) where
  -- by the place of the column among those of its file
  pub must_id : (name : FileName) (row k : ℕ) (column : ColumnName) → row < row_count (table_in t name)
      → slice_get (judged_columns name (field (table_in t name) row)) k ≡ Some (must column id) → IsIdField (table_in t name) row column
  must_id name row k column lt at =
      good_id (table_in t name) row column (must_at name (table_in t name) row k column id (formed name) lt at)

  may_id : (name : FileName) (row k : ℕ) (column : ColumnName) → row < row_count (table_in t name)
      → slice_get (judged_columns name (field (table_in t name) row)) k ≡ Some (may column id) → MayBeId (table_in t name) row column
  may_id name row k column lt at filled =
      let text = id_text (field (table_in t name) row column) (may_at name (table_in t name) row k column id (formed name) lt at filled) in
      (text.filled, text.short, text)

module _ (t : FeedTables) (formed : AreFormed t) (row : ℕ) where
  pub stop_id : row < row_count (table_in t file.Stops) → IsIdField (table_in t file.Stops) row StopId
  stop_id lt = must_id t formed file.Stops row 0 StopId lt refl

  pub route_id : row < row_count (table_in t file.Routes) → IsIdField (table_in t file.Routes) row RouteId
  route_id lt = must_id t formed file.Routes row 0 RouteId lt refl

  pub service_of_trip : row < row_count (table_in t file.Trips) → IsIdField (table_in t file.Trips) row ServiceId
  service_of_trip lt = must_id t formed file.Trips row 1 ServiceId lt refl

  pub trip_id : row < row_count (table_in t file.Trips) → IsIdField (table_in t file.Trips) row TripId
  trip_id lt = must_id t formed file.Trips row 2 TripId lt refl

  pub trip_of_call : row < row_count (table_in t file.StopTimes) → IsIdField (table_in t file.StopTimes) row TripId
  trip_of_call lt = must_id t formed file.StopTimes row 0 TripId lt refl

  pub stop_of_call : row < row_count (table_in t file.StopTimes) → IsIdField (table_in t file.StopTimes) row StopId
  stop_of_call lt =
      good_id (table_in t file.StopTimes) row StopId (flex_at file.StopTimes (table_in t file.StopTimes) row 1 StopId id (formed file.StopTimes) lt refl)

  pub service_of_calendar : row < row_count (table_in t file.Calendar) → IsIdField (table_in t file.Calendar) row ServiceId
  service_of_calendar lt = must_id t formed file.Calendar row 0 ServiceId lt refl

  pub service_of_exception : row < row_count (table_in t file.CalendarDates)
      → IsIdField (table_in t file.CalendarDates) row ServiceId
  service_of_exception lt = must_id t formed file.CalendarDates row 0 ServiceId lt refl

  pub network_id : row < row_count (table_in t file.Networks) → IsIdField (table_in t file.Networks) row NetworkId
  network_id lt = must_id t formed file.Networks row 0 NetworkId lt refl

  pub group_of_frame : row < row_count (table_in t file.Timeframes) → IsIdField (table_in t file.Timeframes) row TimeframeGroupId
  group_of_frame lt = must_id t formed file.Timeframes row 0 TimeframeGroupId lt refl

  pub service_of_frame : row < row_count (table_in t file.Timeframes) → IsIdField (table_in t file.Timeframes) row ServiceId
  service_of_frame lt = must_id t formed file.Timeframes row 3 ServiceId lt refl

  pub product_id : row < row_count (table_in t file.FareProducts) → IsIdField (table_in t file.FareProducts) row FareProductId
  product_id lt = must_id t formed file.FareProducts row 0 FareProductId lt refl

  pub own_network_of_route : row < row_count (table_in t file.Routes) → MayBeId (table_in t file.Routes) row NetworkId
  own_network_of_route lt = may_id t formed file.Routes row 1 NetworkId lt refl

  pub group_of_leg_rule : row < row_count (table_in t file.FareLegRules) → MayBeId (table_in t file.FareLegRules) row LegGroupId
  group_of_leg_rule lt = may_id t formed file.FareLegRules row 0 LegGroupId lt refl

-- no two rows of a file have one id
pub new_ids : (t : FeedTables) → AreRelated t → (ids : IdColumn) (column : ColumnName) (kind : FaultKind)
    → slice_get (checks_of (id_place ids).0) 0 ≡ Some (record { check = NewId ids; column = column; kind = kind })
    → (i j : ℕ) → i < j → j < row_count (table_in t (id_place ids).0)
    → field (table_in t (id_place ids).0) i (id_place ids).1 ≢ field (table_in t (id_place ids).0) j (id_place ids).1
new_ids t related ids column kind at i j lt within =
    ids_apart (table_in t (id_place ids).0) (id_place ids).1 i j (related (id_place ids).0 j 0 _ within at) lt

-- no two rows of a file have one key
pub new_keys : (t : FeedTables) → AreRelated t → (name : FileName) (k : ℕ) (column : ColumnName) (kind : FaultKind)
    → slice_get (checks_of name) k ≡ Some (record { check = NewKey; column = column; kind = kind })
    → (i j : ℕ) → i < j → j < row_count (table_in t name) → same_key name (table_in t name) j i ≡ false
new_keys t related name k column kind at i j lt within =
    apart (same_key name (table_in t name)) i j (related name j k _ within at) lt
