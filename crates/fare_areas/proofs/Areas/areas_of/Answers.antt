use Rattle.std.proofs.Common.{◌∙◌, ap, sym}
use Rattle.fare_areas.specs.AreaRows.{areas_at}
use Rattle.fare_areas.specs.AreaTables.{AreaTable}
use Rattle.fare_areas.proofs.AreaLaws.{rises_at, areas_by_source, areas_without_source}
use Rattle.fare_areas.proofs.Areas.areas_of.Goals as goal

pub returns-in-Some-clause-areas : goal.returns-in-Some-clause-areas
returns-in-Some-clause-areas c = λ feed are.
    c.get.ensures ∙ ap (λ (table : AreaTable). areas_at table.own c.in-Some.source.0) c.self.view_is
    ∙ areas_by_source feed c.args.self.now c.args.stop c.in-Some.source are (sym c.in-Some.is ∙ c.source_of.ensures)

pub returns-in-Some-clause-rise : goal.returns-in-Some-clause-rise
returns-in-Some-clause-rise c = rw c.get.ensures (rises_at c.self.inside.own c.in-Some.source.0 c.self.invariant)

pub returns-in-None-clause-areas : goal.returns-in-None-clause-areas
returns-in-None-clause-areas c = λ feed are.
    areas_without_source feed c.args.self.now c.args.stop are (sym c.in-None.is ∙ c.source_of.ensures)
