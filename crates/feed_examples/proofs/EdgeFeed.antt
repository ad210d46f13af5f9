-- Feeds at the edges of what is no fault: one with rows at the least and the greatest of each value, one without a row in any
-- file, and one in a currency without decimals.
use Rattle.std.proofs.Common.{ℕ, List, [], ◌∷◌, Option, Some, None, true, false, ℤ, pos, negsuc, refl}
use Rattle.std.specs.Prelude.{codes, option_map}
use Rattle.feed_rows.specs.declared.rows.ServiceRow.{ServiceRow}
use Rattle.feed_rows.specs.declared.rows.ExceptionRow.{ExceptionRow}
use Rattle.feed_rows.specs.declared.rows.TimeframeRow.{TimeframeRow}
use Rattle.feed_rows.specs.declared.rows.LinkRow.{LinkRow}
use Rattle.feed_rows.specs.declared.rows.ProductRow.{ProductRow}
use Rattle.feed_rows.specs.FeedRows.{FeedRows}
use Rattle.feed_rows.specs.SoundFeed.{IsSoundFeed}
use Rattle.plain_laws.specs.Plain.{list_below}
use Rattle.feed_laws.proofs.SoundTests.{sound_from_test}
use Rattle.feed_examples.specs.BaseFeed.{base, platform, network_rule, transfer_rule, join_rule}
use Rattle.feed_examples.proofs.CornerRides.{timed, frequency}

-- a text of so many bytes
abbrev pub long_text : ℕ → List ℕ
long_text length = list_below length (λ i. 97)

-- a calendar row of a service, for no weekday
abbrev pub calendar : ℕ → ℤ → ℤ → ServiceRow
calendar service first last =
    record {
      service = record { 0 = service };
      days = false ∷ false ∷ false ∷ false ∷ false ∷ false ∷ false ∷ [];
      first = record { 0 = first };
      last = record { 0 = last };
    }

-- an exception that adds a day to a service
abbrev pub added : ℕ → ℤ → ExceptionRow
added service day = record { service = record { 0 = service }; day = record { 0 = day }; added = true }

-- a timeframe of a group and a service
abbrev pub timeframe : ℕ → ℕ → ℕ → ℕ → TimeframeRow
timeframe frame service start end = record { frame = record { 0 = frame }; start = start; end = end; service = record { 0 = service } }

-- a row of transfers.txt
abbrev pub link_row : ℕ → ℕ → ℕ → LinkRow
link_row from to seconds = record { from = record { 0 = from }; to = record { 0 = to }; forbidden = false; seconds = seconds }

-- a product row for a rider category and a medium
abbrev pub offer : ℕ → Option ℕ → Option ℕ → ℤ → ProductRow
offer product rider medium amount =
    record {
      product = record { 0 = product };
      rider = option_map (λ r. record { 0 = r }) rider;
      medium = option_map (λ m. record { 0 = m }) medium;
      amount = record { 0 = amount };
    }

-- Stops of each kind, and ids of one and of 255 bytes. Stop times out of order, of one trip without times between its ends, of
-- one trip that is a single row, and none of the third. Days from the first to the last of the calendar. Frequency rows of one
-- trip that end before they start, and of two that start at once. Rows of transfers.txt that stand twice. Timeframes that
-- touch, or overlap under another group or service. Products that differ only in the rider category or the medium. Rules that
-- stand twice, a count where both groups are empty, and legs that join at a boarding area.
abbrev pub edge_feed : FeedRows
edge_feed =
    record base {
      stops =
          record { id = codes "A"; kind = 0; parent = Some (record { 0 = 3 }) } ∷ platform (codes "a") ∷ platform (long_text 255)
          ∷ record { id = codes "P"; kind = 1; parent = None } ∷ record { id = codes "E"; kind = 2; parent = None }
          ∷ record { id = codes "N"; kind = 3; parent = None } ∷ record { id = codes "A B"; kind = 4; parent = None } ∷ [];
      stop_times =
          timed 0 2 2147483647 None (Some 604799) ∷ timed 0 1 5 None None ∷ timed 0 0 0 (Some 604799) None
          ∷ timed 1 0 5 (Some 0) (Some 604799) ∷ [];
      services = calendar 0 (negsuc 719161) (pos 2932896) ∷ calendar 1 (pos 2932896) (pos 2932896) ∷ [];
      exceptions = added 0 (negsuc 719161) ∷ added 1 (negsuc 719161) ∷ added 0 (pos 2932896) ∷ [];
      frequencies = frequency 0 604799 400 60 ∷ frequency 0 0 604799 1 ∷ frequency 1 0 0 2147483647 ∷ [];
      links = link_row 0 0 0 ∷ link_row 0 0 2147483647 ∷ link_row 6 3 1 ∷ [];
      areas = record { id = codes "zone" } ∷ record { id = codes "Zone" } ∷ [];
      stop_areas = record { area = record { 0 = 1 }; stop = record { 0 = 6 } } ∷ record { area = record { 0 = 1 }; stop = record { 0 = 6 } } ∷ [];
      timeframes =
          timeframe 0 0 10 86400 ∷ timeframe 0 0 0 10 ∷ timeframe 0 1 5 20 ∷ timeframe 1 0 5 20 ∷ timeframe 1 1 86399 86400 ∷ [];
      riders = record { id = codes "adult"; default = true } ∷ record { id = codes "child"; default = true } ∷ [];
      media = record { id = codes "card" } ∷ record { id = codes "app" } ∷ [];
      products =
          offer 0 None None (pos 1000000000000) ∷ offer 0 None (Some 1) (negsuc 999999999999) ∷ offer 0 (Some 1) None (pos 0)
          ∷ offer 0 (Some 1) (Some 1) (pos 1) ∷ offer 0 (Some 0) (Some 1) (pos 1) ∷ offer 1 (Some 1) (Some 1) (pos 1) ∷ [];
      leg_rules =
          record (network_rule 0 0 0) { priority = 2147483647 } ∷ record (network_rule 0 0 0) { priority = 2147483647 }
          ∷ record (network_rule 1 1 1) { group = None; network = None } ∷ [];
      transfer_rules =
          record (transfer_rule 0 0 0 None) { from = None; to = None; count = Some 2147483647 }
          ∷ record (transfer_rule 0 0 0 None) { count = Some 1; limit = Some (record { seconds = 1; kind = 0 }) }
          ∷ record (transfer_rule 0 1 1 None) { to = None; limit = Some (record { seconds = 2147483647; kind = 3 }) }
          ∷ transfer_rule 0 1 2 (Some (record { 0 = 1 })) ∷ transfer_rule 0 1 2 (Some (record { 0 = 1 })) ∷ [];
      joins =
          join_rule 1 1 (Some (record { 0 = 6 })) (Some (record { 0 = 6 })) ∷ join_rule 0 1 None None
          ∷ join_rule 1 1 (Some (record { 0 = 6 })) (Some (record { 0 = 6 })) ∷ [];
      service_names = codes "W" ∷ codes "M" ∷ [];
      frame_names = codes "early" ∷ codes "late" ∷ [];
      product_names = codes "single" ∷ codes "day" ∷ [];
      has_priority = true;
      currency = Some (codes "AZZ");
      decimals = 3;
    }

-- it has no fault
pub edge_is_sound : IsSoundFeed edge_feed
edge_is_sound = sound_from_test edge_feed refl

-- a feed of files that have a header alone
abbrev pub bare_feed : FeedRows
bare_feed =
    record base {
      stops = [];
      routes = [];
      trips = [];
      stop_times = [];
      exceptions = [];
      products = [];
      leg_rules = [];
      transfer_rules = [];
      service_names = [];
      network_names = [];
      product_names = [];
      group_names = [];
      currency = None;
    }

-- it has no fault
pub bare_is_sound : IsSoundFeed bare_feed
bare_is_sound = sound_from_test bare_feed refl

-- and a feed may have a currency without decimals
pub yen_is_sound : IsSoundFeed (record base { currency = Some (codes "JPY"); decimals = 0 })
yen_is_sound = sound_from_test (record base { currency = Some (codes "JPY"); decimals = 0 }) refl
