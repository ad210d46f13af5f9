-- The lines of `price`, `audit` and `gen`, one by one.
use Rattle.std.specs.Prelude.{ℕ, ◌+◌, List, [], ◌∷◌, ◌++◌, map, Option, ℤ, codes, decimal}
use Rattle.std.specs.List.{flat_map}
use Rattle.std.specs.Option.{option_to_list}
use Rattle.transit_base.specs.declared.numbers.RuleId.{RuleId}
use Rattle.plain_laws.specs.Plain.{given, given_last}
use Rattle.feed_rows.specs.FeedRows.{FeedRows}
use Rattle.feed_rows.specs.Lines.{line}
use Rattle.feed_rows.specs.EntryText.{amount_text, currency_text, fare_lines, stop_text}
use Rattle.feed_rows.specs.GeneratedTexts.{gen_line, triple_line}
use Rattle.feed_rows.specs.PriceTexts.{uncovered_text}
use Rattle.feed_rows.specs.declared.journeys.Pair.{Pair}
use Rattle.feed_rows.specs.declared.fares.Choice.{Choice}
use Rattle.feed_rows.specs.declared.fares.Triple.{Triple}

-- the line of the price of so many rides
abbrev pub price_line : FeedRows → ℕ → ℤ → List ℕ
price_line feed rides price = line (codes "price") (decimal rides ∷ amount_text feed price ∷ currency_text feed ∷ [])

-- it and the fare lines of the choice
abbrev pub price_lines : FeedRows → ℕ → Choice → ℤ → List (List ℕ)
price_lines feed rides choice price = price_line feed rides price ∷ fare_lines feed choice

-- what is printed where no choice pays the rides
abbrev pub uncovered_lines : List (List ℕ)
uncovered_lines = uncovered_text ∷ []

-- the line of a pair of stops between which a ride can't be paid: their ids
unfoldable pub gap_line : FeedRows → Pair → Option (List ℕ)
gap_line feed pair =
    given (stop_text feed pair.from) (λ from.
    given_last (stop_text feed pair.to) (λ to.
    line (codes "gap") (from ∷ to ∷ [])))

-- the line of a rule that no ride selects: its row, from 1
abbrev pub idle_line : RuleId → List ℕ
idle_line rule = line (codes "idle") (decimal (rule.0 + 1) ∷ [])

-- the lines of pairs, and behind them those of rules
abbrev pub audit_lines : FeedRows → List Pair → List RuleId → List (List ℕ)
audit_lines feed pairs rules = flat_map (λ pair. option_to_list (gap_line feed pair)) pairs ++ map idle_line rules

-- the line of a generated feed, and those of the triples
abbrev pub gen_lines : FeedRows → List Triple → List (List ℕ)
gen_lines feed triples = gen_line feed ∷ map (triple_line feed) triples
