-- That the ids of accepted areas, rider categories and fare media are texts of ids.
use Rattle.std.proofs.Common.{refl, ℕ, ◌<◌}
use Rattle.feed_files.specs.declared.names.FileName.TheVariants as file
use Rattle.feed_files.specs.declared.names.ColumnName.TheVariants.{AreaId, RiderCategoryId, FareMediaId}
use Rattle.feed_faults.specs.Records.{row_count}
use Rattle.feed_faults.specs.FeedTables.{FeedTables, table_in}
use Rattle.feed_soundness.specs.AcceptedTables.{AreFormed}
use Rattle.feed_soundness.proofs.IdColumns.{IsIdField, must_id}

pub area_ids : (t : FeedTables) → AreFormed t → (row : ℕ) → row < row_count (table_in t file.Areas) → IsIdField (table_in t file.Areas) row AreaId
area_ids t formed row lt = must_id t formed file.Areas row 0 AreaId lt refl

pub rider_ids : (t : FeedTables) → AreFormed t → (row : ℕ) → row < row_count (table_in t file.RiderCategories) → IsIdField (table_in t file.RiderCategories) row RiderCategoryId
rider_ids t formed row lt = must_id t formed file.RiderCategories row 0 RiderCategoryId lt refl

pub medium_ids : (t : FeedTables) → AreFormed t → (row : ℕ) → row < row_count (table_in t file.FareMedia) → IsIdField (table_in t file.FareMedia) row FareMediaId
medium_ids t formed row lt = must_id t formed file.FareMedia row 0 FareMediaId lt refl
