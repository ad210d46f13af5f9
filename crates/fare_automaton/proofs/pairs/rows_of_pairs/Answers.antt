-- One pair more.
use Rattle.std.proofs.Common.{◌≡◌, ◌∙◌, ap, length, arith}
use Rattle.std.proofs.lemmas.List.{length_push}
use Rattle.feed_rows.specs.FeedRows.{FeedRows}
use Rattle.fare_automaton.proofs.PairLaws.{pairs_more}
use Rattle.fare_automaton.proofs.pairs.rows_of_pairs.Goals as goal

pub loop-place-preserved : goal.loop-place-preserved
loop-place-preserved c = record {
  long = omega (arith, length_push c.loop-place.pairs c.rows_between.result.now, ap length c.in_ok-push.ensures.ok);
  are = pairs_more c.args.feed.now c.loop-place.pairs c.push.new.self c.rows_between.result.now c.loop-place.place
      c.loop-place.invariant.long c.loop-place.invariant.are (c.rows_between.ensures c.args.feed.now c.requires)
      c.in_ok-push.ensures.ok;
}

pub overflow_mul-place-end : goal.overflow_mul-place-end
overflow_mul-place-end c = omega (arith, c.min-count.ensures)

pub overflow_cast-from : goal.overflow_cast-from
overflow_cast-from c = omega (arith, c.loop-place-test.true, c.min-count.ensures)

pub overflow_cast-to : goal.overflow_cast-to
overflow_cast-to c = omega arith

pub returns-clause-rows : goal.returns-clause-rows
returns-clause-rows c = c.loop-place.invariant.are

pub returns-clause-many : goal.returns-clause-many
returns-clause-many c =
    let names : length c.items.result.now ≡ length c.args.feed.now.group_names =
    c.items.ensures.len ∙ ap (λ (f : FeedRows). length f.group_names) c.feed.view_is in
    omega (arith, c.loop-place.invariant.long, c.loop-place-test.false, c.loop-place.auto.place-end, c.min-count.ensures, names)
