use Rattle.std.proofs.Common.{rules, ◌≡◌, ◌∙◌, ap, map, IfOk, ℕ, arith}
use Rattle.std.specs.Prelude.{◌==◌}
use Rattle.std.specs.List.{range_with_len}
use Rattle.std.proofs.lemmas.Iterator.{YieldsList-from_range, YieldsList-from_map, items_from_collect}
use Rattle.feed_rows.specs.Codes.{platform_type}
use Rattle.feed_faults.specs.FieldValues.{stop_kind}
use Rattle.feed_files.specs.declared.names.FileName.TheVariants as file
use Rattle.feed_faults.specs.FeedTables.{table_in}
use Rattle.plain_laws.specs.Plain.{list_below}
use Rattle.feed_relations.specs.JudgedBy.{are_platforms}
use Rattle.feed_relations.proofs.RangeLaws.{list_of_range}
use Rattle.feed_relations.proofs.judged.JudgedFeed.of.Goals as goal

pub invariant_of-result : goal.invariant_of-result
unfolding are_platforms
invariant_of-result g c =
    let t = c.args.tables.now in
    let is_platform = λ (row : ℕ). stop_kind (table_in t file.Stops) row == platform_type in
    let n = c.rows.result in
    let found : IfOk c.collect.result (λ platforms. platforms.items ≡ map is_platform (range_with_len 0 n)) =
    items_from_collect c.collect.result c.collect.ensures.ran (YieldsList-from_map _ is_platform (YieldsList-from_range 0 n n c.map.ensures.source (omega arith)) c.map.ensures.closure (λ x r q k. search rules)) in
    record {
      ids_are = c.requires.ids;
      named = c.requires.named;
      calls_are = c.requires.calls;
      platforms_are = (rw c.in_ok-platforms.was at found) ∙ list_of_range is_platform n ∙ ap (λ k. list_below k is_platform) c.rows.ensures.count;
      order_is = c.in_ok-order.ensures;
    }
