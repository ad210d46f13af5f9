-- A leg that others are written over.
use Rattle.std.specs.Prelude.{[], None, pos}
use Rattle.feed_rows.specs.declared.journeys.LegFacts.{LegFacts}

-- it has no areas and no timeframe groups
abbrev pub blank_leg : LegFacts
blank_leg =
    record {
      network = None;
      from_areas = [];
      to_areas = [];
      from_frames = [];
      to_frames = [];
      departure = record { 0 = pos 0 };
      arrival = record { 0 = pos 0 };
    }
