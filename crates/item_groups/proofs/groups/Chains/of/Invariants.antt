use Rattle.std.proofs.Common.{◌≡◌, ◌-◌, length}
use Rattle.item_groups.specs.Groups.{AreChains}
use Rattle.item_groups.proofs.groups.Chains.of.Given as goal

abbrev pub invariant-loop-passed : goal.invariant-loop-passed
invariant-loop-passed g l = record {
  chains : AreChains l.members (length l.members - l.passed) l.chains;
  count : length l.chains.firsts.items ≡ l.count;
}
