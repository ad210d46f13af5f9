use Rattle.std.proofs.Common.{◌≡◌, Some, arith}
use Rattle.item_groups.specs.Parts.{parts}
use Rattle.item_groups.proofs.PartLaws.{length_parts}
use Rattle.feed_faults.specs.Records.{table_of_bytes}
use Rattle.feed_text.proofs.ReaderLaws.{goes_within, kept_within, too_long}
use Rattle.feed_text.proofs.table.table_of.Goals as goal

pub loop-preserved : goal.loop-preserved
loop-preserved c =
    let pushed = c.in_ok-push_record-in-Ok-true.ensures in
    record {
      rows = pushed.rise;
      count = omega (arith, pushed.count, c.loop.invariant.count);
      going = rw c.in-Ok-true.field-0-test at c.in-Ok-true.ensures.going;
      stands = λ text begins. rw pushed.parts (rw c.in-Ok-true.field-0-test at (c.in-Ok-true.ensures.goes_on (Some text) (parts 0 c.loop.ends.items c.loop.fields) (c.loop.invariant.stands text begins)));
    }

pub returns-in-Ok-false : goal.returns-in-Ok-false
returns-in-Ok-false c text begins =
    let all = rw c.in-Ok-false.field-0-test at (c.in-Ok-false.ensures.goes_on (Some text) (parts 0 c.loop.ends.items c.loop.fields) (c.loop.invariant.stands text begins)) in
    let size = length_parts 0 c.loop.ends.items c.loop.fields in
    let is : c.in_ok-of-in-Ok-false.field-0 ≡ parts 0 c.loop.ends.items c.loop.fields = c.in_ok-of-in-Ok-false.ensures in
    rw is (kept_within (parts 0 c.loop.ends.items c.loop.fields) (table_of_bytes text) c.args.max_rows (rw all.is_of.told at all.is_table)
    (omega (arith, size, c.loop.invariant.count, c.loop-test.true, c.from-end.ensures)))

pub returns : goal.returns
returns c text begins =
    let within = goes_within (λ s. Some s.now) c.loop.records text (parts 0 c.loop.ends.items c.loop.fields) (c.loop.invariant.stands text begins) in
    let size = length_parts 0 c.loop.ends.items c.loop.fields in
    too_long (table_of_bytes text) c.args.max_rows
    (omega (arith, within, size, c.loop.invariant.count, c.loop-test.false, c.from-end.ensures))
