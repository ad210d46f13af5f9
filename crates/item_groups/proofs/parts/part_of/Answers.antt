use Rattle.std.proofs.Common.{arith}
use Rattle.item_groups.proofs.PartLaws.{rise_at}
use Rattle.item_groups.proofs.parts.part_of.Goals as goal

pub returns-clause-order : goal.returns-clause-order
returns-clause-order c = let at = rise_at 0 c.args.ends.now c.args.size c.args.place c.requires.rise c.requires.within in omega (arith, at.0, c.start_of.ensures)

pub returns-clause-bound : goal.returns-clause-bound
returns-clause-bound c = (rise_at 0 c.args.ends.now c.args.size c.args.place c.requires.rise c.requires.within).1
