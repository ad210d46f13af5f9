-- A feed with rows of every kind, and that it has no fault: so the facts that are said of a feed can be met, and each
-- by rows that are not empty.
use Rattle.std.proofs.Common.{true, [], ◌∷◌, Some, None, pos, negsuc, refl}
use Rattle.std.specs.Prelude.{codes}
use Rattle.feed_rows.specs.FeedRows.{FeedRows}
use Rattle.feed_laws.proofs.SoundTests.{sound_from_test}
use Rattle.feed_rows.specs.SoundFeed.{IsSoundFeed}
use Rattle.feed_examples.specs.BaseFeed.{base, platform, call, ticket, transfer_rule, join_rule}

-- the base feed with a station, an untimed stop time, a calendar row, a frequency, a link, fares by area and hour, and legs that
-- join
abbrev pub full_feed : FeedRows
full_feed =
    record base {
      stops =
          record { id = codes "A"; kind = 0; parent = Some (record { 0 = 3 }) } ∷ platform (codes "B") ∷ platform (codes "C") ∷ record { id = codes "S"; kind = 1; parent = None } ∷ [];
      stop_times =
          call 0 0 1 28800
          ∷ record { trip = record { 0 = 0 }; stop = record { 0 = 2 }; sequence = 4; arrival = None; departure = None; pickup = true; drop_off = true }
          ∷ record { trip = record { 0 = 0 }; stop = record { 0 = 1 }; sequence = 7; arrival = Some 29400; departure = None; pickup = true; drop_off = true }
          ∷ call 1 1 1 29700
          ∷ call 1 2 2 30600
          ∷ [];
      services =
          record { service = record { 0 = 0 }; days = true ∷ true ∷ true ∷ true ∷ true ∷ true ∷ true ∷ []; first = record { 0 = negsuc 0 }; last = record { 0 = pos 20241 } } ∷ [];
      frequencies = record { trip = record { 0 = 0 }; start = 28800; end = 36000; headway = 600 } ∷ [];
      links = record { from = record { 0 = 1 }; to = record { 0 = 2 }; forbidden = true; seconds = 60 } ∷ [];
      areas = record { id = codes "zone" } ∷ [];
      stop_areas = record { area = record { 0 = 0 }; stop = record { 0 = 1 } } ∷ [];
      timeframes =
          record { frame = record { 0 = 0 }; start = 21600; end = 32400; service = record { 0 = 0 } }
          ∷ record { frame = record { 0 = 0 }; start = 0; end = 21600; service = record { 0 = 0 } }
          ∷ record { frame = record { 0 = 1 }; start = 0; end = 86400; service = record { 0 = 0 } }
          ∷ [];
      riders = record { id = codes "adult"; default = true } ∷ [];
      media = record { id = codes "card" } ∷ [];
      products =
          ticket 0 250
          ∷ record { product = record { 0 = 0 }; rider = Some (record { 0 = 0 }); medium = None; amount = record { 0 = negsuc 49 } }
          ∷ record { product = record { 0 = 0 }; rider = Some (record { 0 = 0 }); medium = Some (record { 0 = 0 }); amount = record { 0 = pos 0 } }
          ∷ [];
      leg_rules =
          record { group = Some (record { 0 = 0 }); network = Some (record { 0 = 1 }); from_area = Some (record { 0 = 0 }); to_area = None; from_frame = Some (record { 0 = 0 }); to_frame = Some (record { 0 = 1 }); product = record { 0 = 2 }; priority = 9 } ∷ [];
      transfer_rules =
          transfer_rule 0 1 2 None
          ∷ record { from = Some (record { 0 = 0 }); to = Some (record { 0 = 0 }); count = Some 2; limit = Some (record { seconds = 3600; kind = 3 }); kind = 1; product = Some (record { 0 = 1 }) }
          ∷ [];
      joins = join_rule 0 1 None None ∷ join_rule 1 1 (Some (record { 0 = 1 })) (Some (record { 0 = 3 })) ∷ [];
      frame_names = codes "early" ∷ codes "all day" ∷ [];
      has_priority = true;
    }

-- it has no fault
pub full_is_sound : IsSoundFeed full_feed
full_is_sound = sound_from_test full_feed refl
