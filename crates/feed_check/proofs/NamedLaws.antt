-- Each stop time of tables that are formed names a trip and a stop.
use Rattle.feed_faults.specs.FeedTables.{FeedTables}
use Rattle.feed_soundness.specs.AcceptedTables.{AreFormed}
use Rattle.feed_soundness.proofs.IdColumns.{trip_of_call, stop_of_call}
use Rattle.feed_relations.specs.JudgedBy.{AreCallsNamed}

pub calls_named : (t : FeedTables) → AreFormed t → AreCallsNamed t
calls_named t formed = record { trips = λ row lt. (trip_of_call t formed row lt).2; stops = λ row lt. (stop_of_call t formed row lt).2 }
