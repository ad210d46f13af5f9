use Rattle.std.proofs.Common.{ap, length, arith}
use Rattle.item_groups.proofs.PartLaws.{length_parts}
use Rattle.item_groups.proofs.groups.Groups.count.Goals as goal

pub returns : goal.returns
returns g c =
    let many = length_parts 0 c.self.inside.ends.items c.self.inside.items.items in
    let long = ap length c.self.view_is in
    omega arith
