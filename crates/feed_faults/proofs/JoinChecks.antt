-- Rules by which legs join, at their edges.
use Rattle.std.proofs.Common.{ℕ, List, [], ◌∷◌, ◌++◌, Option, None, refl}
use Rattle.std.specs.Prelude.{codes}
use Rattle.feed_files.specs.declared.names.FileName.TheVariants as file
use Rattle.feed_files.specs.declared.names.ColumnName.{ColumnName}
use Rattle.feed_files.specs.declared.names.ColumnName.TheVariants as column
use Rattle.feed_files.specs.declared.faults.FaultKind.{FaultKind}
use Rattle.feed_files.specs.declared.faults.FaultKind.TheVariants as kind
use Rattle.feed_files.specs.declared.faults.FeedFault.{FeedFault}
use Rattle.feed_faults.specs.OnLiterals.{feeds_on_literals}
use Rattle.feed_faults.proofs.Folders.{Folder, with_file}
use Rattle.feed_faults.proofs.BaseFeed.{base}
use Rattle.feed_faults.proofs.Expected.{Answers, fault, plain_fault}

-- the file with these rows
abbrev rules : List ℕ → List ℕ
rules rows = codes "from_network_id,to_network_id,from_stop_id,to_stop_id\n" ++ rows

-- the same with the columns in another order
abbrev backward_rules : List ℕ → List ℕ
backward_rules rows = codes "to_stop_id,from_stop_id,to_network_id,from_network_id\n" ++ rows

-- a fault of a field of the file
abbrev join_fault : FaultKind → ℕ → ColumnName → Option FeedFault
join_fault kind row column = fault kind file.FareLegJoinRules row column

-- rules without stops, also where one stands twice and where the columns of stops are absent; rules between two stops; no rule
good_rules : Answers base (codes "fare_leg_join_rules.txt")
    ((codes "from_network_id,to_network_id\nbus,rail\nbus,rail\nrail,rail\n", None)
    ∷ (rules (codes "bus,rail,B,B\nrail,bus,,\nbus,rail,B,B\n"), None)
    ∷ (rules [], None) ∷ [])
unfolding feeds_on_literals
good_rules = refl

-- what a rule names must be there
unknown_names : Answers base (codes "fare_leg_join_rules.txt")
    ((rules (codes "bus,rail,,\ntram,rail,,\n"), join_fault kind.UnknownReference 2 column.FromNetworkId)
    ∷ (rules (codes "bus,tram,,\n"), join_fault kind.UnknownReference 1 column.ToNetworkId)
    ∷ (rules (codes "bus,rail,X,B\n"), join_fault kind.UnknownReference 1 column.FromStopId)
    ∷ (rules (codes "bus,rail,B,X\n"), join_fault kind.UnknownReference 1 column.ToStopId) ∷ [])
unfolding feeds_on_literals
unknown_names = refl

-- one stop without the other, whichever it is
one_stop : Answers base (codes "fare_leg_join_rules.txt")
    ((rules (codes "bus,rail,A,\n"), join_fault kind.JoinStops 1 column.ToStopId)
    ∷ (rules (codes "bus,rail,A,A\nbus,rail,,A\n"), join_fault kind.JoinStops 2 column.ToStopId)
    ∷ (codes "from_network_id,to_network_id,from_stop_id\nbus,rail,A\n", join_fault kind.JoinStops 1 column.ToStopId) ∷ [])
unfolding feeds_on_literals
one_stop = refl

-- a rule with several faults, of which each is told where those before it aren't there: the order isn't that of the file's columns,
-- and that a stop isn't there is told before that it stands alone
order_of_checks : Answers base (codes "fare_leg_join_rules.txt")
    ((backward_rules (codes "X,X,x,x\n"), join_fault kind.UnknownReference 1 column.FromNetworkId)
    ∷ (backward_rules (codes "X,X,x,bus\n"), join_fault kind.UnknownReference 1 column.ToNetworkId)
    ∷ (backward_rules (codes "X,X,rail,bus\n"), join_fault kind.UnknownReference 1 column.FromStopId)
    ∷ (rules (codes "bus,rail,X,\n"), join_fault kind.UnknownReference 1 column.FromStopId)
    ∷ (rules (codes "bus,rail,,X\n"), join_fault kind.UnknownReference 1 column.ToStopId)
    ∷ (rules (codes "bus,rail,A,\ntram,rail,,\n"), join_fault kind.JoinStops 1 column.ToStopId) ∷ [])
unfolding feeds_on_literals
order_of_checks = refl

-- a network is known that networks.txt has, though no route is of it
other_networks : Folder
other_networks =
    with_file (codes "routes.txt") (codes "route_id\nR1\nR2\n")
    (with_file (codes "networks.txt") (codes "network_id\nbus\nrail\n") base)

networks_of_a_file : Answers other_networks (codes "fare_leg_join_rules.txt")
    ((rules (codes "bus,rail,,\n"), None)
    ∷ (rules (codes "rail,tram,,\n"), join_fault kind.UnknownReference 1 column.ToNetworkId) ∷ [])
unfolding feeds_on_literals other_networks
networks_of_a_file = refl

-- a stop of any kind may be named
stops_of_other_kinds : Answers (with_file (codes "stops.txt") (codes "stop_id,location_type\nA\nB\nC\nP,1\nE,2\n") base)
    (codes "fare_leg_join_rules.txt")
    ((rules (codes "bus,rail,P,E\n"), None) ∷ [])
unfolding feeds_on_literals
stops_of_other_kinds = refl

-- the file by itself: columns and fields that must be there, and fields past the header
forms : Answers base (codes "fare_leg_join_rules.txt")
    ((codes "from_network_id\nbus\n", join_fault kind.MissingColumn 0 column.ToNetworkId)
    ∷ (codes "to_network_id,from_stop_id,from_stop_id\nbus\n", join_fault kind.DoubledColumn 0 column.FromStopId)
    ∷ (rules (codes "bus,,A,\n"), join_fault kind.EmptyRequired 1 column.ToNetworkId)
    ∷ (rules (codes ",rail,,\n"), join_fault kind.EmptyRequired 1 column.FromNetworkId)
    ∷ (rules (codes "bus,rail,,,x\n"), plain_fault kind.LongRow file.FareLegJoinRules 1)
    ∷ (rules (codes "bus,rail,\"A\tA\",\n"), join_fault kind.BadText 1 column.FromStopId) ∷ [])
unfolding feeds_on_literals
forms = refl
