-- What contracts see of `Areas`.
use Rattle.std.specs.Prelude.{List, Option}
use Rattle.transit_base.specs.declared.numbers.AreaId.{AreaId}
use Rattle.transit_base.specs.declared.numbers.NetworkId.{NetworkId}
use Rattle.transit_base.specs.declared.numbers.StopId.{StopId}
use Rattle.fare_areas.specs.declared.Areas.TheInside.{Inside}

-- the areas of each stop's own rows, the stop whose rows tell each stop's areas, and the network of each route
pub record AreaTable : Type 0 where
  pub own : List (List AreaId)
  pub sources : List (Option StopId)
  pub networks : List (Option NetworkId)

-- the fields as one record
abbrev pub table_inside : Inside → AreaTable
table_inside fields = record { own = fields.own; sources = fields.sources.items; networks = fields.networks.items }
