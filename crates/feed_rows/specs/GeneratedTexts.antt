-- The text of the command `gen`: how large its feed is, and the triples of the plan over it.
use Rattle.std.specs.Prelude.{◌≡◌, ℕ, List, [], ◌∷◌, ◌++◌, length, All, AllPairs, Contains, IsTrue, Ok, codes, decimal}
use Rattle.std.specs.List.{flat_map}
use Rattle.transit_base.specs.DateTexts.{moment_text}
use Rattle.feed_rows.specs.Lines.{line}
use Rattle.feed_rows.specs.FeedRows.{FeedRows}
use Rattle.feed_rows.specs.EntryText.{amount_text}
use Rattle.feed_rows.specs.ParetoTriples.{is_before}
use Rattle.feed_rows.specs.JourneyEntries.{IsMinimal}
use Rattle.feed_rows.specs.declared.journeys.Query.{Query}
use Rattle.feed_rows.specs.declared.fares.Triple.{Triple}

-- the line of a generated feed: how many rows its main files have
abbrev pub gen_line : FeedRows → List ℕ
gen_line feed =
    line (codes "gen")
    (decimal (length feed.stops) ∷ decimal (length feed.routes) ∷ decimal (length feed.trips)
    ∷ decimal (length feed.stop_times) ∷ [])

-- the line of a triple: its final arrival, rides and price
unfoldable pub triple_line : FeedRows → Triple → List ℕ
triple_line feed triple =
    line (codes "triple") (moment_text triple.arrival.0 ∷ decimal triple.rides ∷ amount_text feed triple.price.0 ∷ [])

-- the text: the line of the feed, and those of the triples
abbrev pub gen_text : FeedRows → List Triple → List ℕ
gen_text feed triples = gen_line feed ++ flat_map (triple_line feed) triples

-- the triples are exactly the minimal ones of the query, each once, and they stand in order
pub record AreMinimalTriples (feed : FeedRows) (query : Query) (triples : List Triple) : Type 0 where
  pub minimal : All (IsMinimal feed query) triples
  pub complete : (triple : Triple) → IsMinimal feed query triple → Contains triples triple
  pub in_order : AllPairs (λ a b. IsTrue (is_before a b)) triples
