use Rattle.std.proofs.Common.{◌∙◌, ap, subst, length, arith}
use Rattle.std.proofs.lemmas.List.{length-replicate}
use Rattle.item_groups.specs.Groups.{AreChains}
use Rattle.item_groups.proofs.GroupLaws.{unlinked}
use Rattle.item_groups.proofs.groups.Chains.of.Goals as goal

pub loop-passed-init : goal.loop-passed-init
loop-passed-init g c =
    let firsts = c.in_ok-vec.ensures.items_if_clones_equal (λ y same. same) in
    record {
      chains = unlinked c.args.members.now _ c.args.count 4294967295 firsts (c.in_ok-vec-2.ensures.items_if_clones_equal (λ y same. same)) (omega (arith, c.if-members.false));
      count = ap length firsts ∙ length-replicate c.args.count 4294967295;
    }

-- the invariant speaks of where the next member stands, and the calls and the end of the same place by other sums
pub put-requires-clause-behind : goal.put-requires-clause-behind
put-requires-clause-behind g c =
    subst (λ place. AreChains c.args.members.now place c.loop-passed.chains) (omega (arith, c.loop-passed-test.true)) c.loop-passed.invariant.chains

pub loop-passed-preserved : goal.loop-passed-preserved
loop-passed-preserved g c = record {
  chains = subst (λ place. AreChains c.args.members.now place c.put.new.self) (omega arith) c.put.ensures.chains;
  count = c.put.ensures.count ∙ c.loop-passed.invariant.count;
}

pub returns-clause-chains : goal.returns-clause-chains
returns-clause-chains g c =
    subst (λ place. AreChains c.args.members.now place c.loop-passed.chains) (omega (arith, c.loop-passed-test.false)) c.loop-passed.invariant.chains
