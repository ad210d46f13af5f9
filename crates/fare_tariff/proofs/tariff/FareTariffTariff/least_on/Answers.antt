-- By what is told of further rides.
use Rattle.std.proofs.Common.{◌∙◌, ap}
use Rattle.std.specs.Int.{w128}
use Rattle.std.proofs.lemmas.Int.{to_z-of_z}
use Rattle.round_terms.specs.Labels.{facts_of}
use Rattle.fare_tariff.specs.FareTerms.{TariffOf, label_facts}
use Rattle.fare_tariff.specs.Prices.{least_on}
use Rattle.fare_tariff.proofs.TariffLaws.{told_below, told_never}
use Rattle.fare_tariff.proofs.tariff.FareTariffTariff.least_on.Goals as goal

pub returns-then-is_far : goal.returns-then-is_far
returns-then-is_far c asked same serves within few =
    let a = facts_of c.args.label.now in
    told_never asked c.args.self.now same serves c.args.late c.args.behind a c.requires.fare within few _
    (to_z-of_z w128 c.least_on-price.result (record { sfits = c.least_on-price.type_inv })
    ∙ c.least_on-price.ensures ∙ ap (λ (of : TariffOf). least_on of.bounds c.args.late c.args.behind (label_facts a)) c.self.view_is)
    (c.is_far.ensures c.if-is_far.true)

pub returns : goal.returns
returns c asked same serves within few =
    let a = facts_of c.args.label.now in
    told_below asked c.args.self.now same serves c.args.late c.args.behind a c.requires.fare within few _
    (to_z-of_z w128 c.least_on-price.result (record { sfits = c.least_on-price.type_inv })
    ∙ c.least_on-price.ensures ∙ ap (λ (of : TariffOf). least_on of.bounds c.args.late c.args.behind (label_facts a)) c.self.view_is)
