-- The lines that are due for `price` and `gen`, one after another, are the texts that these commands have by the rules of the feed.
use Rattle.std.proofs.Common.{◌≡◌, inl, inr, refl, ◌∙◌, ap, append-nil, ℕ, List, [], ◌∷◌, ◌++◌, length}
use Rattle.std.specs.Prelude.{map, Ok, ℤ}
use Rattle.std.specs.List.{concat, flat_map}
use Rattle.std.proofs.lemmas.List.Concat.{flat_map-cons}
use Rattle.feed_rows.specs.declared.fares.Choice.{Choice}
use Rattle.feed_rows.specs.declared.journeys.Query.{Query}
use Rattle.feed_rows.specs.FeedRows.{FeedRows}
use Rattle.commands.specs.GeneratedPlan.{generated_plan}
use Rattle.feed_rows.specs.GeneratedTexts.{gen_line, triple_line}
use Rattle.commands.specs.GeneratedPlan.{IsGenText}
use Rattle.commands.specs.PriceQueries.{PriceQuery}
use Rattle.feed_rows.specs.PriceTexts.{IsPriceText, price_text, uncovered_text}
use Rattle.commands.specs.Queries.{query_of}
use Rattle.ticket_explain.specs.CommandLines.{price_lines}
use Rattle.command_answers.specs.Due.{DoTask, Task}

-- the lines of a price are its text
price_told : (feed : FeedRows) (rides : ℕ) (choice : Choice) (price : ℤ)
    → concat (price_lines feed rides choice price) ≡ price_text feed rides choice price
unfolding price_text
price_told feed rides choice price = refl

-- lines that do what `price` asks for make a text of the least price of these rides
pub price_text_of : (feed : FeedRows) (query : PriceQuery) (lines : List (List ℕ)) → DoTask (Task.Prices feed query) lines
    → IsPriceText feed query.rides query.buyer (concat lines)
price_text_of feed query lines (joined, inl (choice, price, least, are)) =
    (joined, inl (choice, price, least, ap concat are ∙ price_told feed (length query.rides) choice price))
price_text_of feed query lines (joined, inr (none, are)) =
    (joined, inr (none, ap concat are ∙ append-nil uncovered_text))

-- what items are mapped to, one after another
concat_map : {X : Type 0} (f : X → List ℕ) (xs : List X) → concat (map f xs) ≡ flat_map f xs
concat_map f [] = refl
concat_map f (x ∷ xs) = rw (flat_map-cons f x xs, ← concat_map f xs) refl

-- lines that do what `gen` asks for make a text of the feed with so many lines
pub gen_text_of : (feed : FeedRows) (count : ℕ) (query : Query) (lines : List (List ℕ))
    → query_of feed (generated_plan count) ≡ Ok query → DoTask (Task.Generates feed query) lines
    → IsGenText feed count (concat lines)
gen_text_of feed count query lines asked are = record {
  query = query;
  is_query = asked;
  triples = are.triples;
  are_minimal = are.are_minimal;
  is_text = ap concat are.are_lines ∙ ap (λ rest. gen_line feed ++ rest) (concat_map (triple_line feed) are.triples);
}
