use Rattle.std.proofs.Common.{◌≡◌, subst, ◌++◌}
use Rattle.std.specs.Map.{values_of}
use Rattle.std.specs.Prelude.{OnOk}
use Rattle.std.proofs.lemmas.Result.{on_ok_weaker}
use Rattle.label_bag.specs.Bags.{AreApart}
use Rattle.round_search.specs.Bags.{gathered, has_rides, in_all, in_bags}
use Rattle.round_terms.specs.Labels.{covers}
use Rattle.round_search.proofs.BagLaws.{gathers_both}
use Rattle.round_search.proofs.ClassLaws.{bags_apart}
use Rattle.round_search.proofs.bags.StopBags.gather.Goals as goal

pub returns-in_err-push_stops-clause-apart : goal.returns-in_err-push_stops-clause-apart
returns-in_err-push_stops-clause-apart g c =
    subst (λ bs. AreApart (covers g.F.LabelOrder.at_most) (in_bags bs)) c.self.view_is
    (bags_apart g.F.LabelOrder.at_most g.F.Class.PartialEq.eq g.F.Classed.class_of g.met.F.Class.Eq.laws g.met.F.Classed.classes
    c.self.inside.stops.items c.self.inside.classes.entries c.self.invariant)

pub returns-clause-value : goal.returns-clause-value
returns-clause-value g c =
    let old = c.args.labels.now.items in
    let new = c.push_classes.new.labels.items in
    subst (λ bs. OnOk c.push_classes.result (new ≡ old ++ gathered c.args.rides (in_bags bs))) c.self.view_is
    (on_ok_weaker c.push_classes.result
    (gathers_both (has_rides c.args.rides) (in_all c.self.inside.stops.items) (in_all (values_of c.self.inside.classes.entries)) old
    c.push_stops.new.labels.items new c.in_ok-push_stops.ensures)
    c.push_classes.ensures)

pub returns-clause-apart : goal.returns-clause-apart
returns-clause-apart g c =
    subst (λ bs. AreApart (covers g.F.LabelOrder.at_most) (in_bags bs)) c.self.view_is
    (bags_apart g.F.LabelOrder.at_most g.F.Class.PartialEq.eq g.F.Classed.class_of g.met.F.Class.Eq.laws g.met.F.Classed.classes
    c.self.inside.stops.items c.self.inside.classes.entries c.self.invariant)
