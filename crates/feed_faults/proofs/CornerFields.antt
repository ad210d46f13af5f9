-- Fields at the edges of their grammars: the decimals of each currency, zeros with a sign, integers of two digits, and tabs in
-- columns that may be empty.
use Rattle.std.proofs.Common.{◌≡◌, [], ◌∷◌, None, Some, refl}
use Rattle.std.specs.Prelude.{codes, map, replicate}
use Rattle.feed_files.specs.declared.names.FileName.TheVariants as file
use Rattle.feed_files.specs.declared.names.ColumnName.TheVariants as column
use Rattle.feed_files.specs.declared.faults.FaultKind.TheVariants as kind
use Rattle.feed_faults.specs.FieldGrammars.{currency_decimals}
use Rattle.feed_faults.specs.OnLiterals.{feeds_on_literals, grammars_on_literals}
use Rattle.feed_faults.proofs.BaseFeed.{base}
use Rattle.feed_faults.proofs.Expected.{Answers, fault}

-- every currency without decimals
currencies_without_decimals : map currency_decimals
    (codes "BIF" ∷ codes "CLP" ∷ codes "DJF" ∷ codes "GNF" ∷ codes "ISK" ∷ codes "JPY" ∷ codes "KMF" ∷ codes "KRW"
    ∷ codes "PYG" ∷ codes "RWF" ∷ codes "UGX" ∷ codes "VND" ∷ codes "VUV" ∷ codes "XAF" ∷ codes "XOF" ∷ codes "XPF" ∷ [])
    ≡ replicate 16 (Some 0)
unfolding grammars_on_literals
currencies_without_decimals = refl

-- every currency of three decimals
currencies_of_three_decimals : map currency_decimals
    (codes "BHD" ∷ codes "IQD" ∷ codes "JOD" ∷ codes "KWD" ∷ codes "LYD" ∷ codes "OMR" ∷ codes "TND" ∷ [])
    ≡ replicate 7 (Some 3)
unfolding grammars_on_literals
currencies_of_three_decimals = refl

-- the first and the last code, and the bytes before A and after Z
edges_of_codes : map currency_decimals (codes "AAA" ∷ codes "ZZZ" ∷ codes "@AA" ∷ codes "AA[" ∷ []) ≡ Some 2 ∷ Some 2 ∷ None ∷ None ∷ []
unfolding grammars_on_literals
edges_of_codes = refl

-- sequences: 0 and -0 are one, and there is none below
sequences_about_zero : Answers base (codes "stop_times.txt")
    ((codes "trip_id,stop_id,stop_sequence,arrival_time\nT1,A,0,8:00:00\nT1,B,-0,8:00:00\n", fault kind.DoubledKey file.StopTimes 2 column.StopSequence)
    ∷ (codes "trip_id,stop_id,stop_sequence,arrival_time\nT1,A,-1,8:00:00\n", fault kind.BadNumber file.StopTimes 1 column.StopSequence) ∷ [])
unfolding feeds_on_literals
sequences_about_zero = refl

-- a type of two digits is none, also where it begins with one of those that are passed over
type_of_two_digits : Answers base (codes "transfers.txt")
    ((codes "from_stop_id,to_stop_id,transfer_type\nX,A,45\n", fault kind.BadNumber file.Transfers 1 column.TransferType) ∷ [])
unfolding feeds_on_literals
type_of_two_digits = refl

-- a tab within an id is a fault too where the column may be empty, and where the field isn't looked at among the files
tab_in_network : Answers base (codes "routes.txt") ((codes "route_id,network_id\nR1,\"b\tus\"\nR2,rail\n", fault kind.BadText file.Routes 1 column.NetworkId) ∷ [])
unfolding feeds_on_literals
tab_in_network = refl

tab_in_parent : Answers base (codes "stops.txt")
    ((codes "stop_id,location_type,parent_station\nA\nB\nC\nE,2,\"x\ty\"\n", fault kind.BadText file.Stops 4 column.ParentStation) ∷ [])
unfolding feeds_on_literals
tab_in_parent = refl
