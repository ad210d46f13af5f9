-- Texts whose lines are told one by one.
use Rattle.std.proofs.Common.{◌≡◌, ℕ, List, [], ◌∷◌, ◌++◌, map, flat_map, refl, ap, ℤ}
use Rattle.std.specs.List.{concat}
use Rattle.feed_rows.specs.FeedRows.{FeedRows}
use Rattle.feed_rows.specs.GeneratedTexts.{gen_line, triple_line, gen_text}
use Rattle.feed_rows.specs.PriceTexts.{price_text}
use Rattle.feed_rows.specs.declared.fares.Choice.{Choice}
use Rattle.feed_rows.specs.declared.fares.Triple.{Triple}
use Rattle.ticket_explain.specs.CommandLines.{price_lines, gen_lines}

pub price_joined : (feed : FeedRows) (rides : ℕ) (choice : Choice) (price : ℤ) → concat (price_lines feed rides choice price) ≡ price_text feed rides choice price
unfolding price_text
price_joined feed rides choice price = refl

concat_map : {X : Type 0} (f : X → List ℕ) (xs : List X) → concat (map f xs) ≡ flat_map f xs
concat_map f [] = refl
concat_map f (x ∷ xs) = ap (λ rest. f x ++ rest) (concat_map f xs)

pub gen_joined : (feed : FeedRows) (triples : List Triple) → concat (gen_lines feed triples) ≡ gen_text feed triples
gen_joined feed triples = ap (λ rest. gen_line feed ++ rest) (concat_map (triple_line feed) triples)
