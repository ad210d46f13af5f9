use Rattle.std.proofs.Common.{◌≡◌, ◌∙◌, ap, ◌+◌, length, arith}
use Rattle.std.proofs.lemmas.List.{length-append}
use Rattle.fare_timeframes.specs.FrameDays.{AreSpansOf}
use Rattle.fare_timeframes.specs.FrameRows.{rows_at}
use Rattle.fare_timeframes.proofs.DayLaws.{groups_more, day_of_groups}
use Rattle.fare_timeframes.proofs.Timeframes.frame_day.Goals as goal

pub loop-number-preserved : goal.loop-number-preserved
loop-number-preserved c =
    let number = c.loop-number.number in
    let rows = c.args.self.now.rows in
    let made = c.in_ok-push.ensures.ok in
    record {
      many = ap length made ∙ length-append c.loop-number.spans _ ∙ ap (λ n. n + 1) c.loop-number.invariant.many;
      each = λ feed are.
          groups_more c.loop-number.spans c.push.new.self c.as_slice.result.now number (λ frame. AreSpansOf feed c.args.day.0 (rows_at rows frame)) made
          c.loop-number.invariant.many (c.loop-number.invariant.each feed are)
          (rw c.as_slice.ensures.value (rw c.get.ensures at (c.in_ok-group.ensures (rw c.get.ensures (are.rises number)) feed are.calendar)));
    }

pub returns : goal.returns
returns c = λ feed are.
    let end : c.loop-number.number ≡ length c.args.self.now.rows = omega (arith, c.loop-number-test.false, c.loop-number.auto.number-end, c.count-number-end.ensures) in
    day_of_groups feed c.args.self.now _ are (c.loop-number.invariant.many ∙ end) (rw end at (c.loop-number.invariant.each feed are))
