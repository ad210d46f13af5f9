use Rattle.std.proofs.Common.{◌∙◌, sym, ap, subst, rules, List, take, take_all, Contains, get_or, ℕ}
use Rattle.std.proofs.lemmas.List.{take_more}
use Rattle.std.proofs.lemmas.List.Sorted.{Contains-permutation, IsNonDecreasingBy-from_sort_by_key}
use Rattle.feed_rows.specs.declared.rows.TimeframeRow.{TimeframeRow}
use Rattle.feed_rows.specs.FeedRows.{FeedRows}
use Rattle.fare_timeframes.proofs.CutLaws.{cuts_more}
use Rattle.fare_timeframes.proofs.cuts.cuts_of.Goals as goal

pub loop-row-preserved : goal.loop-row-preserved
loop-row-preserved c =
    let rows = c.items-row-items.result.now in
    rw (take_more rows c.loop-row.row-index (record { frame = record { 0 = 0 }; service = record { 0 = 0 }; start = 0; end = 0 }) c.loop-row-test.true, c.in_ok-push-2.ensures.items, c.in_ok-push.ensures.items)
    (cuts_more (take c.loop-row.row-index rows) (get_or rows c.loop-row.row-index (record { frame = record { 0 = 0 }; service = record { 0 = 0 }; start = 0; end = 0 })) c.loop-row.cuts.items c.loop-row.invariant)

pub returns : goal.returns
returns c =
    let all = take_all c.loop-row.row-index c.items-row-items.result.now c.loop-row-test.false ∙ c.items-row-items.ensures.value ∙ ap (λ (f : FeedRows). f.timeframes) c.feed.view_is in
    let has : (row : TimeframeRow) → Contains c.args.feed.now.timeframes row → Contains c.loop-row.cuts.items row.start × Contains c.loop-row.cuts.items row.end =
    λ row at. c.loop-row.invariant row (let P : List TimeframeRow → Type 0 = λ rs. Contains rs row in subst P (sym all) at) in
    record {
      rises = IsNonDecreasingBy-from_sort_by_key (λ (cut : ℕ). cut) _ c.sort_unstable_by_key.ensures.sorted (λ a r q k. search rules);
      starts = λ row at. Contains-permutation _ _ row.start c.sort_unstable_by_key.ensures.permutation (has row at).0;
      ends = λ row at. Contains-permutation _ _ row.end c.sort_unstable_by_key.ensures.permutation (has row at).1;
    }
