-- What a move adds is small.
use Rattle.feed_rows.specs.Legs.{leg_facts}
use Rattle.fare_laws.proofs.SmallLaws.{move_small}
use Rattle.fare_tariff.proofs.tariff.FareTariffTariff.after.Goals as goal

pub after-requires-clause-small : goal.after-requires-clause-small
after-requires-clause-small c =
    let of = c.args.self.now in
    let fare = c.args.label.now.fare in
    move_small of.feed of.query.buyer fare.state fare.held.0 (leg_facts of.feed c.args._ride.now.facts) c.args.taken.now
    c.feed-feed.ensures.sound c.requires.fare.held c.requires.pays
