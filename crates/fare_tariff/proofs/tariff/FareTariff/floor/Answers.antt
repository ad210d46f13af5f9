use Rattle.std.proofs.Common.{◌∙◌, ap}
use Rattle.feed_rows.specs.FareFloor.{fare_floor}
use Rattle.fare_tariff.specs.FareTerms.{TariffOf}
use Rattle.fare_tariff.proofs.tariff.FareTariff.floor.Goals as goal

pub returns : goal.returns
returns c =
    c.floor.ensures ∙ ap (fare_floor c.self.inside.automaton.now.feed) c.self.invariant.0
    ∙ ap (λ (of : TariffOf). fare_floor of.feed of.query.buyer) c.self.view_is
