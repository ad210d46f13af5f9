-- Files as tables at their edges: quotes, ends of lines, blanks around fields, and columns without a name or with one twice.
use Rattle.std.proofs.Common.{[], ◌∷◌, None, refl}
use Rattle.std.specs.Prelude.{codes}
use Rattle.feed_files.specs.declared.names.FileName.TheVariants as file
use Rattle.feed_files.specs.declared.names.ColumnName.TheVariants as column
use Rattle.feed_files.specs.declared.faults.FaultKind.TheVariants as kind
use Rattle.feed_faults.specs.OnLiterals.{feeds_on_literals}
use Rattle.feed_faults.proofs.BaseFeed.{base}
use Rattle.feed_faults.proofs.ExporterForm.{marked}
use Rattle.feed_faults.proofs.Expected.{Answers, fault}

-- a quoted name behind a mark, a quote that is never closed, a quoted empty field, which is a row, a quote behind a blank,
-- which is part of the field, blanks within quotes, which are cut, and an id that is one quote
quotes : Answers base (codes "stops.txt")
    ((marked (codes "\"stop_id\"\nA\nB\nC\n"), None)
    ∷ (codes "stop_id\nA\nB\n\"C", None)
    ∷ (codes "stop_id\nA\nB\n\"C\"\n\"\"\n", fault kind.EmptyRequired file.Stops 4 column.StopId)
    ∷ (codes "stop_id\nA\nB\n \"C\"\n", fault kind.UnknownReference file.StopTimes 4 column.StopId)
    ∷ (codes "stop_id\nA\nB\n\" C \"\n", None)
    ∷ (codes "stop_id\nA\nB\nC\n\"\"\"\"\n", None) ∷ [])
unfolding feeds_on_literals
quotes = refl

-- lines that end in a carriage return alone, and a last line without an end
line_ends : Answers base (codes "stops.txt") ((codes "stop_id\rA\rB\rC", None) ∷ (codes "stop_id\rA\r\r\nB\n\rC\r", None) ∷ [])
unfolding feeds_on_literals
line_ends = refl

-- a column without a name holds what is passed over, and a name with a blank behind it is the same name
names_of_columns : Answers base (codes "stops.txt")
    ((codes "stop_id,\nA,x\nB\nC,y\n", None)
    ∷ (codes "stop_id,stop_id \nA\n", fault kind.DoubledColumn file.Stops 0 column.StopId) ∷ [])
unfolding feeds_on_literals
names_of_columns = refl

-- ids that differ by blanks at their ends are one id
blanks_around_ids : Answers base (codes "trips.txt")
    ((codes "route_id,service_id,trip_id\nR1,W,T1\nR2,W,\" T1 \"\n", fault kind.DoubledKey file.Trips 2 column.TripId)
    ∷ (codes "route_id,service_id,trip_id\n R1,W ,T1\n\"R2 \",\tW,T2\nR1,W,T3 \n", None) ∷ [])
unfolding feeds_on_literals
blanks_around_ids = refl

-- a header alone is a file without rows
header_alone : Answers base (codes "stop_times.txt") ((codes "trip_id,stop_id,stop_sequence\n", None) ∷ [])
unfolding feeds_on_literals
header_alone = refl
