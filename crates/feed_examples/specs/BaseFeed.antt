-- The base feed of the worked examples: two bus trips and a rail trip on one day, with their tariff.
use Rattle.std.specs.Prelude.{ℕ, ◌+◌, ◌*◌, true, false, List, [], ◌∷◌, Option, Some, None, pos, codes}
use Rattle.feed_rows.specs.declared.rows.StopRow.{StopRow}
use Rattle.feed_rows.specs.declared.rows.TripRow.{TripRow}
use Rattle.feed_rows.specs.declared.rows.StopTimeRow.{StopTimeRow}
use Rattle.feed_rows.specs.declared.rows.ProductRow.{ProductRow}
use Rattle.feed_rows.specs.declared.rows.LegRuleRow.{LegRuleRow}
use Rattle.feed_rows.specs.declared.rows.TransferRuleRow.{TransferRuleRow}
use Rattle.feed_rows.specs.declared.rows.JoinRow.{JoinRow}
use Rattle.feed_rows.specs.declared.journeys.Buyer.{Buyer}
use Rattle.feed_rows.specs.declared.journeys.Query.{Query}
use Rattle.feed_rows.specs.FeedRows.{FeedRows}
use Rattle.transit_base.specs.declared.ProductId.{ProductId}
use Rattle.transit_base.specs.declared.StopId.{StopId}

-- a platform without a station
abbrev pub platform : List ℕ → StopRow
platform id = record { id = id; kind = 0; parent = None }

-- a trip of a route, of the one service
abbrev pub trip : List ℕ → ℕ → TripRow
trip id route = record { id = id; route = record { 0 = route }; service = record { 0 = 0 } }

-- a stop time with one time for arrival and departure
abbrev pub call : ℕ → ℕ → ℕ → ℕ → StopTimeRow
call trip stop sequence time =
    record {
      trip = record { 0 = trip };
      stop = record { 0 = stop };
      sequence = sequence;
      arrival = Some time;
      departure = Some time;
      pickup = true;
      drop_off = true;
    }

-- a product row for every rider, without a medium
abbrev pub ticket : ℕ → ℕ → ProductRow
ticket product amount = record { product = record { 0 = product }; rider = None; medium = None; amount = record { 0 = pos amount } }

-- a leg rule of a group, for a network, with a product
abbrev pub network_rule : ℕ → ℕ → ℕ → LegRuleRow
network_rule group network product =
    record {
      group = Some (record { 0 = group });
      network = Some (record { 0 = network });
      from_area = None;
      to_area = None;
      from_frame = None;
      to_frame = None;
      product = record { 0 = product };
      priority = 0;
    }

-- a transfer rule between two groups, of a type, with a product if there is one
abbrev pub transfer_rule : ℕ → ℕ → ℕ → Option ProductId → TransferRuleRow
transfer_rule from to kind product =
    record {
      from = Some (record { 0 = from });
      to = Some (record { 0 = to });
      count = None;
      limit = None;
      kind = kind;
      product = product;
    }

-- a rule by which legs join, from one network to another, and from one stop to another if it names them
abbrev pub join_rule : ℕ → ℕ → Option StopId → Option StopId → JoinRow
join_rule from to from_stop to_stop =
    record {
      from_network = record { 0 = from };
      to_network = record { 0 = to };
      from_stop = from_stop;
      to_stop = to_stop;
    }

-- the base feed: stops A, B, C; routes R1 (bus) and R2 (rail); trips T1, T2, T3 on 2025-06-02, which is day 20241
abbrev pub base : FeedRows
base =
    record {
      stops = platform (codes "A") ∷ platform (codes "B") ∷ platform (codes "C") ∷ [];
      routes =
          record { id = codes "R1"; network = Some (record { 0 = 0 }) } ∷ record { id = codes "R2"; network = Some (record { 0 = 1 }) } ∷ [];
      trips = trip (codes "T1") 0 ∷ trip (codes "T2") 1 ∷ trip (codes "T3") 0 ∷ [];
      stop_times =
          call 0 0 1 28800 ∷ call 0 1 2 29400 ∷ call 1 1 1 29700 ∷ call 1 2 2 30600 ∷ call 2 0 1 29100 ∷ call 2 2 2 32400 ∷ [];
      services = [];
      exceptions = record { service = record { 0 = 0 }; day = record { 0 = pos 20241 }; added = true } ∷ [];
      frequencies = [];
      links = [];
      areas = [];
      stop_areas = [];
      timeframes = [];
      riders = [];
      media = [];
      products = ticket 0 250 ∷ ticket 1 400 ∷ ticket 2 50 ∷ [];
      leg_rules = network_rule 0 0 0 ∷ network_rule 1 1 1 ∷ [];
      transfer_rules = transfer_rule 0 1 0 (Some (record { 0 = 2 })) ∷ [];
      joins = [];
      service_names = codes "W" ∷ [];
      network_names = codes "bus" ∷ codes "rail" ∷ [];
      frame_names = [];
      product_names = codes "single" ∷ codes "rail" ∷ codes "change" ∷ [];
      group_names = codes "gb" ∷ codes "gr" ∷ [];
      has_priority = false;
      currency = Some (codes "EUR");
      decimals = 2;
    }

-- who buys without a rider category, and who buys as one of the category with this number
abbrev pub no_category : Buyer
no_category = record { rider = None }

abbrev pub of_category : ℕ → Buyer
of_category number = record { rider = Some (record { 0 = number }) }

-- so many seconds after the start of 2025-06-02
abbrev pub on_the_day : ℕ → ℕ
on_the_day seconds = 20241 * 86400 + seconds

-- a query from one stop to another, from that time of 2025-06-02 on, with at most 4 rides within a day
abbrev pub query : ℕ → ℕ → ℕ → Query
query from to time =
    record {
      from = record { 0 = from };
      to = record { 0 = to };
      departure = record { 0 = pos (on_the_day time) };
      rides = 4;
      window = 86400;
      buyer = no_category;
    }
