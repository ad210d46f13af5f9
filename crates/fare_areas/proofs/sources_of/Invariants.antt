use Rattle.std.proofs.Common.{◌≡◌}
use Rattle.plain_laws.specs.Plain.{list_below}
use Rattle.fare_areas.specs.AreaRows.{source_at}
use Rattle.fare_areas.proofs.sources_of.Given as goal

abbrev pub invariant-loop-number : goal.invariant-loop-number
invariant-loop-number l = l.sources.items ≡ list_below l.number (source_at l.own l.stops)
