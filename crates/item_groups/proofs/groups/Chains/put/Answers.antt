use Rattle.std.proofs.Common.{refl, arith}
use Rattle.item_groups.proofs.GroupLaws.{chain_put, chain_passed}
use Rattle.item_groups.proofs.groups.Chains.put.Goals as goal

pub returns-then-group-len-clause-chains : goal.returns-then-group-len-clause-chains
returns-then-group-len-clause-chains g c =
    chain_put c.args.members.now c.args.place c.index-members-place.result c.requires.within c.args.self.now _ c.index.result.now
    (omega (arith, c.if-group-len.true, c.len.ensures)) c.index.ensures c.requires.behind refl refl

pub returns-else-group-len-clause-chains : goal.returns-else-group-len-clause-chains
returns-else-group-len-clause-chains g c =
    chain_passed c.args.members.now c.args.place c.index-members-place.result c.requires.within c.args.self.now (omega (arith, c.if-group-len.false, c.len.ensures)) c.requires.behind
