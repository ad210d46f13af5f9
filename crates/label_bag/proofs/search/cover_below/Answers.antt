use Rattle.label_bag.proofs.BagLaws.{none-weaker}
use Rattle.label_bag.proofs.HeightLaws.{uncovered-higher}
use Rattle.label_bag.proofs.search.cover_below.Goals as goal

pub returns-clause-none : goal.returns-clause-none
returns-clause-none g c =
    none-weaker c.cover_among.result
    (uncovered-higher g.L.LabelOrder.at_most _ _ g.L.Stair.height_of g.met.L.Stair.stairs c.args.flight.now c.args.label.now c.args.up_to c.requires.higher)
    c.cover_among.ensures.none
