use Rattle.std.proofs.Common.{sym, subst}
use Rattle.plan_arrivals.specs.Arrivals.{AreArrivals}
use Rattle.plan_arrivals.proofs.CourseLaws.{arrivals_of}
use Rattle.plan_arrivals.proofs.earliest.arrivals_by.Goals as goal

pub returns : goal.returns
returns c =
    let feed = c.args.rides.now.feed in
    let query = c.args.rides.now.query in
    let labels = c.in_ok-_labels._labels.items in
    let front = c.in_ok-_labels.front in
    subst (AreArrivals feed query) (sym c.into_items.ensures.value)
    (arrivals_of feed query c.positions-positions.ensures.sound labels front c.in_ok-_labels.ensures c.into_items.ensures.front)
