-- Calls behind one another.
use Rattle.std.proofs.Common.{ℕ, ◌+◌, List, [], ◌++◌, append_assoc, append-nil}
use Rattle.folder_io.specs.CallLogs.{CallLog, Makes}

-- no call
pub makes_none : (log : CallLog) → Makes log [] log
makes_none log = record { behind = λ made may. rw append-nil may }

-- more calls
pub makes_more : {before now later : CallLog} {calls more : List (List ℕ)} → Makes before calls now → Makes now more later → Makes before (calls ++ more) later
makes_more {calls = calls} {more = more} first then =
    record { behind = λ made may. rw (← append_assoc made calls more) (then.behind (made ++ calls) (first.behind made may)) }
