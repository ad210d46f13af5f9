-- The calls of one kind that were made of an object so far, as far as it tells of them.
use Rattle.std.specs.Prelude.{ℕ, ◌-◌, ◌^◌, ◌==◌, min, Bool, true, List, length, ◌++◌, IsTrue}

-- whether these may be all calls so far, in order, each by what it was given: a name or a piece
abbrev pub CallLog : Type 0
CallLog = List (List ℕ) → Bool

-- whatever calls were made before, these were made behind them, in order, and no others, where the log tells calls
pub record Makes (before : CallLog) (calls : List (List ℕ)) (now : CallLog) : Type 0 where
  pub behind : (made : List (List ℕ)) → IsTrue (before made) → IsTrue (now (made ++ calls))

-- the calls of an object that counts them, up to the last number of a u64
abbrev pub counted : ℕ → CallLog
counted count made = count == min (length made) (2 ^ 64 - 1)

-- the calls of an object that tells nothing of them
abbrev pub untold : CallLog
untold made = true
