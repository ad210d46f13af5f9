-- Of the rows so far that stop where a journey may end, the networks are marked.
use Rattle.std.proofs.Common.{◌≡◌, ◌+◌, length, vec_len}
use Rattle.fare_bounds.proofs.FirstLaws.{AreFirst}
use Rattle.fare_tariff.proofs.LastLaws.{IsNetworkMarked}
use Rattle.fare_tariff.proofs.lasts.last_networks.Given as goal

abbrev pub invariant-loop-row : goal.invariant-loop-row
invariant-loop-row l =
    (vec_len l.marks ≡ length l.timetable.network_names + 1)
    × AreFirst (IsNetworkMarked l.timetable l.ends l.marks.items) l.row-items l.row-index
