-- The currency of accepted products.
use Rattle.std.proofs.Common.{◌≡◌, refl, ℕ, ◌<◌, List, [], ◌∷◌, length, get_or, true, nat_lt, arith}
use Rattle.std.specs.Prelude.{unwrap_or}
use Rattle.feed_files.specs.declared.names.FileName.TheVariants as file
use Rattle.feed_files.specs.declared.names.ColumnName.TheVariants.{Currency}
use Rattle.feed_faults.specs.Records.{FileTable, row_count, field}
use Rattle.feed_faults.specs.FieldGrammars.{currency_decimals}
use Rattle.feed_faults.specs.AcceptedFeed.{feed_currency, feed_decimals}
use Rattle.feed_soundness.proofs.RuleShapes.{currency}
use Rattle.feed_faults.specs.FeedTables.{FeedTables, table_in}
use Rattle.feed_soundness.specs.AcceptedTables.{AreFormed}
use Rattle.feed_soundness.proofs.FieldLaws.{must_at}
use Rattle.feed_soundness.proofs.ValueLaws.{currency_good}

-- it has three letters
pub currency_of_three : (t : FeedTables) → AreFormed t → 0 < row_count (table_in t file.FareProducts) → length (field (table_in t file.FareProducts) 0 Currency) ≡ 3
currency_of_three t formed lt = (currency_good (field (table_in t file.FareProducts) 0 Currency) (must_at file.FareProducts (table_in t file.FareProducts) 0 3 Currency currency (formed file.FareProducts) lt refl).fit).code

-- a text of three bytes, byte by byte
pub three_bytes : (text : List ℕ) → length text ≡ 3 → get_or text 0 0 ∷ get_or text 1 0 ∷ get_or text 2 0 ∷ [] ≡ text
three_bytes [] e = absurd (omega arith)
three_bytes (a ∷ []) e = absurd (omega arith)
three_bytes (a ∷ b ∷ []) e = absurd (omega arith)
three_bytes (a ∷ b ∷ c ∷ []) e = refl
three_bytes (a ∷ b ∷ c ∷ d ∷ rest) e = absurd (omega arith)

-- where there is a product, the decimals are those of the first one's currency
pub decimals_of_first : (products : FileTable) → nat_lt 0 (row_count products) ≡ true
    → feed_decimals products ≡ unwrap_or (currency_decimals (field products 0 Currency)) 2
unfolding feed_currency feed_decimals
decimals_of_first products some = rw some refl
