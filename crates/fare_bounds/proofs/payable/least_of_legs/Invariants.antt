-- Of the rules so far, none costs less than stands for its group.
use Rattle.std.proofs.Common.{◌≡◌, ◌+◌, length, vec_len}
use Rattle.fare_bounds.specs.Amounts.{AreAmounts}
use Rattle.fare_bounds.specs.Payable.{IsLegRuleAbove}
use Rattle.fare_bounds.proofs.FirstLaws.{AreFirst}
use Rattle.fare_bounds.proofs.payable.least_of_legs.Given as goal

abbrev pub invariant-loop-rule : goal.invariant-loop-rule
invariant-loop-rule l =
    (vec_len l.amounts ≡ length l.feed.group_names + 2)
    × AreAmounts 1 l.amounts.items × AreFirst (IsLegRuleAbove l.products l.amounts.items) l.rule-items l.rule-index
