-- What is found, as tables have it.
use Rattle.std.specs.Prelude.{List, map}
use Rattle.feed_rows.specs.RoundTables.{Final as KeptFinal}
use Rattle.round_terms.specs.declared.finals.Final.{Final}

-- the final as tables have it
abbrev pub final_of : Final → KeptFinal
final_of final = record { triple = final.triple; label = final.label; last = final.last }

abbrev pub finals_of : List Final → List KeptFinal
finals_of finals = map final_of finals
