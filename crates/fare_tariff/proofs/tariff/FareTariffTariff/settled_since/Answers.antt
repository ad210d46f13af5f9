-- By the moment past which no change is arranged after the state.
use Rattle.std.proofs.Common.{subst}
use Rattle.std.specs.Prelude.{IfSome}
use Rattle.round_terms.specs.Labels.{facts_of}
use Rattle.round_terms.specs.Legs.{AreSettled}
use Rattle.fare_tariff.specs.FareTerms.{IsKnown, TariffOf, fare_terms}
use Rattle.fare_tariff.proofs.SettledLaws.{settled_at}
use Rattle.fare_tariff.proofs.tariff.FareTariffTariff.settled_since.Goals as goal

pub returns-in-Some-clause-settled : goal.returns-in-Some-clause-settled
returns-in-Some-clause-settled c asked same serves =
    let a = facts_of c.args.label.now in
    let legs = c.args.legs.now in
    subst
    (λ (of : TariffOf). IfSome c.since_at.result
    (λ since. AreSettled (fare_terms of) asked.feed (IsKnown of.feed of.query.buyer legs) a since.0)) same
    (settled_at asked serves legs a c.in-Some.own c.in-Some.is c.last_after.result c.last_after.ensures c.since_at.result
    c.since_at.ensures.none c.since_at.ensures.later)
