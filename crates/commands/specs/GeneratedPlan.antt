-- The plan that `gen` makes over its feed, and the text of its answer.
use Rattle.std.specs.Prelude.{◌≡◌, ℕ, ◌-◌, List, None, false, Ok, pos}
use Rattle.transit_base.specs.Dates.{day_number}
use Rattle.transit_base.specs.Moments.{moment_at}
use Rattle.feed_rows.specs.FeedRows.{FeedRows}
use Rattle.feed_rows.specs.Limits.{usual_window}
use Rattle.feed_rows.specs.GeneratedFeed.{stop_name}
use Rattle.feed_rows.specs.GeneratedTexts.{AreMinimalTriples, gen_text}
use Rattle.feed_rows.specs.declared.journeys.Query.{Query}
use Rattle.feed_rows.specs.declared.fares.Triple.{Triple}
use Rattle.commands.specs.Queries.{query_of}
use Rattle.commands.specs.Requests.{PlanRequest}

-- the plan over the feed: from the first stop to the last on 2025-06-02 at 07:00:00, with at most 4 rides within a day
abbrev pub generated_plan : ℕ → PlanRequest
generated_plan lines =
    record {
      from = stop_name 0 0;
      to = stop_name (lines - 1) (lines - 1);
      departure = moment_at (day_number 2025 6 2) (pos 25_200);
      rides = 4;
      rider = None;
      window = usual_window;
      stats = false;
    }

-- the text is that of `gen` over this feed, which has so many lines
pub record IsGenText (feed : FeedRows) (lines : ℕ) (text : List ℕ) : Type 0 where
  pub query : Query
  pub is_query : query_of feed (generated_plan lines) ≡ Ok query
  pub triples : List Triple
  pub are_minimal : AreMinimalTriples feed query triples
  pub is_text : text ≡ gen_text feed triples
