use Rattle.std.proofs.Common.{◌∙◌}
use Rattle.label_bag.proofs.BagLaws.{found-covers}
use Rattle.label_bag.proofs.in_class.is_covered_in_class.Goals as goal

pub returns : goal.returns
returns g c =
    c.is_some.ensures
    ∙ found-covers g.L.LabelOrder.at_most c.args.members.now c.args.label.now c.cover_below.result
    c.cover_below.ensures.found c.cover_below.ensures.none
