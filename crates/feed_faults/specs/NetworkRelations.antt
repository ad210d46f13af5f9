-- Networks of routes in files of their own.
use Rattle.std.specs.Prelude.{◌&&◌, nat_lt, Bool, Option, None}
use Rattle.feed_files.specs.declared.names.FileName.{FileName}
use Rattle.feed_files.specs.declared.names.FileName.TheVariants as file
use Rattle.feed_files.specs.declared.names.ColumnName.TheVariants.{NetworkId}
use Rattle.feed_files.specs.declared.faults.FaultKind.TheVariants.{ForbiddenTogether}
use Rattle.feed_files.specs.declared.faults.FeedFault.{FeedFault}
use Rattle.plain_laws.specs.Plain.{when, any_below}
use Rattle.feed_faults.specs.Records.{FileTable, row_count, field, is_filled}
use Rattle.feed_faults.specs.FaultPlaces.{file_fault}
use Rattle.feed_faults.specs.FeedTables.{FeedTables, table_in}

-- some route has a network of its own
unfoldable pub has_own_networks : FileTable → Bool
has_own_networks routes = any_below (row_count routes) (λ row. is_filled (field routes row NetworkId))

-- a file of networks has a row beside a route with a network of its own (networks.txt, route_networks.txt: Conditionally
-- Forbidden)
unfoldable pub are_networks_forbidden : FeedTables → FileName → Bool
are_networks_forbidden t name = nat_lt 0 (row_count (table_in t name)) && has_own_networks (table_in t file.Routes)

-- the fault of a file before those of its rows
abbrev pub forbidden_fault : FeedTables → FileName → Option FeedFault
forbidden_fault t file.Networks = when (are_networks_forbidden t file.Networks) (file_fault file.Networks ForbiddenTogether)
forbidden_fault t file.RouteNetworks = when (are_networks_forbidden t file.RouteNetworks) (file_fault file.RouteNetworks ForbiddenTogether)
forbidden_fault t name = None
