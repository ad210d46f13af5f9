-- Of the rules so far that name no network or a marked one, the groups are marked.
use Rattle.std.proofs.Common.{◌≡◌, ◌+◌, length, vec_len}
use Rattle.fare_bounds.proofs.FirstLaws.{AreFirst}
use Rattle.fare_tariff.proofs.LastLaws.{IsGroupMarked}
use Rattle.fare_tariff.proofs.lasts.groups_of.Given as goal

abbrev pub invariant-loop-rule : goal.invariant-loop-rule
invariant-loop-rule l =
    (vec_len l.lasts ≡ length l.feed.group_names + 2)
    × AreFirst (IsGroupMarked l.networks l.lasts.items) l.rule-items l.rule-index
