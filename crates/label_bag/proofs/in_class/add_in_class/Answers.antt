use Rattle.std.proofs.Common.{ap, subst, sym, length, ◌∷◌, []}
use Rattle.label_bag.specs.Bags.{IsUncovered}
use Rattle.label_bag.proofs.ClassLaws.{placed_as, gathers_in, keeps_in, apart_in, flight_in}
use Rattle.label_bag.proofs.in_class.add_in_class.Goals as goal
use Rattle.label_bag.proofs.in_class.add_in_class.Goals.{in-Ok, in-Err}

pub returns : goal.returns
returns g c =
    let laws = g.met.L.Stair.stairs in
    let equal = g.met.L.Class.Eq.laws in
    let order = g.met.L.LabelOrder.laws in
    let found = c.count_lower-start.ensures in
    let view = c.as_slice-flight.ensures.value in
    let long = ap length view in
    let bare = subst (λ xs. IsUncovered g.L.LabelOrder.at_most xs c.args.label) (sym view) c.requires.uncovered in
    let placed = placed_as g.L.LabelOrder.at_most g.L.Stair.height_of _ _ _ c.args.label view
    found.within found.lower found.others bare in
    elim c.match-replace.branch [
      | in-Ok w ↦ record {
        gathers = rw w.result-is (gathers_in _ _ _ _ laws equal order _ _ c.requires.flight _ long _ _ placed w.in-Ok.ensures.ok);
        keeps = rw w.result-is (keeps_in _ _ _ _ laws equal order _ _ c.requires.flight _ long _ _ placed w.in-Ok.ensures.ok);
        flight = flight_in _ _ _ _ laws equal order _ _ c.requires.flight _ long _ _ placed w.in-Ok.ensures.ok;
        apart = apart_in _ _ _ _ laws equal order _ _ c.requires.flight _ long _ _ placed w.in-Ok.ensures.ok c.requires.apart;
        err = rw w.result-is tt;
      }
      | in-Err w ↦ record {
        gathers = rw w.result-is tt;
        keeps = rw w.result-is tt;
        flight = rw w.in-Err.ensures.refused.1 c.requires.flight;
        apart = rw w.in-Err.ensures.refused.1 c.requires.apart;
        err = rw w.result-is w.in-Err.ensures.refused.1;
      }
    ]
