use Rattle.std.proofs.Common.{◌≡◌, refl, ap, List, [], ◌∷◌, length, get_or}
use Rattle.std.specs.Prelude.{map}
use Rattle.feed_files.specs.declared.names.ColumnName.TheVariants as column
use Rattle.feed_faults.specs.Records.{FileTable}
use Rattle.feed_tables.specs.IdColumns.{call_ids}
use Rattle.feed_tables.specs.KeptTables.{tables_with}
use Rattle.feed_tables.specs.RowNumbers.{TableOf, first_files}
use Rattle.feed_tables.proofs.ids.CallIds.of.Goals as goal

first_tables : (first : List TableOf) (calls : FileTable) (others : List TableOf) (stops trips : TableOf) → map (λ (read : TableOf). read.file) first ≡ first_files
    → stops ≡ get_or first 0 stops → trips ≡ get_or first 2 trips
    → record { stops = record { table = stops.table; name = column.StopId }; trips = record { table = trips.table; name = column.TripId } } ≡ call_ids (tables_with first calls others)
first_tables (x ∷ y ∷ z ∷ rest) calls others stops trips are stops_at trips_at = rw (stops_at, trips_at) refl
first_tables [] calls others stops trips are stops_at trips_at = absurd (let wrong = ap length are in cc)
first_tables (x ∷ []) calls others stops trips are stops_at trips_at = absurd (let wrong = ap length are in cc)
first_tables (x ∷ y ∷ []) calls others stops trips are stops_at trips_at = absurd (let wrong = ap length are in cc)

pub returns : goal.returns
returns c = λ calls others. rw (c.in_ok-of.ensures, c.in_ok-of-2.ensures, c.table.ensures, c.table-2.ensures)
    (first_tables c.args.first.now calls others c.index-first-0.result c.index-first-2.result c.requires c.index-first-0.is c.index-first-2.is)
