use Rattle.std.proofs.Common.{rules, tests, arith, ◌≡◌, ◌∙◌, refl, ap, ℕ, nat_lt, true}
use Rattle.std.specs.List.{list_any, range_with_len}
use Rattle.std.proofs.lemmas.Bool.Decides.{nat_tests}
use Rattle.std.proofs.lemmas.Iterator.{YieldsList-from_range}
use Rattle.std.proofs.lemmas.Iterator.Search.{any_from_yields_List}
use Rattle.plain_laws.specs.Plain.{any_below}
use Rattle.feed_files.specs.declared.names.ColumnName.TheVariants.{NetworkId}
use Rattle.feed_files.specs.declared.names.FileName.TheVariants as file
use Rattle.feed_faults.specs.FeedTables.{table_in}
use Rattle.feed_faults.specs.NetworkRelations.{are_networks_forbidden, has_own_networks}
use Rattle.feed_faults.specs.Records.{row_count, field, is_filled}
use Rattle.feed_relations.proofs.RangeLaws.{any_of_range}
use Rattle.feed_relations.proofs.pass.are_networks_forbidden.Goals as goal

pub returns-then-rows-gt0 : goal.returns-then-rows-gt0
unfolding are_networks_forbidden has_own_networks
returns-then-rows-gt0 g c =
    let routes = table_in c.args.tables.now file.Routes in
    let test = λ (row : ℕ). is_filled (field routes row NetworkId) in
    let n = c.rows-then-rows-gt0.result in
    let rows : n ≡ row_count routes = search rules in
    let filled : nat_lt 0 (row_count (table_in c.args.tables.now c.args.file)) ≡ true = grind (arith, nat_tests, c.if-rows-gt0.true, c.rows.ensures.count) in
    let found : c.any.result ≡ list_any test (range_with_len 0 n) =
    any_from_yields_List test _ _ _ c.any.ensures.ran (YieldsList-from_range 0 n n refl (omega arith)) (λ x b q k. search (rules, tests)) in
    rw filled (found ∙ any_of_range test n ∙ ap (λ k. any_below k test) rows)
