use Rattle.std.proofs.Common.{◌≡◌, ◌∙◌, ◌≤◌, refl, sym, true, nat_lt, arith}
use Rattle.std.specs.Prelude.{unwrap_or}
use Rattle.std.proofs.lemmas.Bool.Decides.{nat_tests}
use Rattle.feed_files.specs.declared.names.FileName.TheVariants as file
use Rattle.feed_files.specs.declared.names.ColumnName.TheVariants.{Currency}
use Rattle.feed_faults.specs.Records.{row_count, field}
use Rattle.feed_faults.specs.FieldGrammars.{currency_decimals}
use Rattle.feed_faults.specs.FeedTables.{table_in}
use Rattle.feed_text.proofs.ValueLaws.{natural_is}
use Rattle.feed_build.proofs.CurrencyLaws.{decimals_of_first}
use Rattle.feed_build.proofs.ValueLaws.{decimals_fit, decimals_at_most}
use Rattle.feed_build.proofs.feed.TableSource.currency.Goals as goal

pub natural-requires : goal.natural-requires
natural-requires g c = rw c.numbers.ensures (decimals_fit _)

pub overflow_cast-decimals : goal.overflow_cast-decimals
overflow_cast-decimals g c =
    let few : c.unwrap_or-decimals.result ≤ 3 = rw (c.unwrap_or-decimals.ensures, c.natural.ensures, c.numbers.ensures, natural_is) (decimals_at_most _) in
    omega (arith, few)

pub returns-clause-decimals : goal.returns-clause-decimals
returns-clause-decimals g c =
    let products = table_in c.args.self.now file.FareProducts in
    let rows : c.rows.result ≡ row_count products = rw (c.get-products.ensures, c.self.view_is) at c.rows.ensures.count in
    let some : nat_lt 0 (row_count products) ≡ true = grind (arith, nat_tests, rows, c.if-rows-eq0.false) in
    let told : c.unwrap_or-decimals.result ≡ unwrap_or (currency_decimals (field products 0 Currency)) 2 = rw (c.unwrap_or-decimals.ensures, c.natural.ensures, c.numbers.ensures, natural_is, c.self.view_is) refl in
    told ∙ sym (decimals_of_first products some)
