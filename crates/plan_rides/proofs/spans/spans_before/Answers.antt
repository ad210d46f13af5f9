use Rattle.std.proofs.Common.{◌≡◌, ◌+◌, ◌<◌, sym, ◌∙◌, ap, subst, length, arith}
use Rattle.std.specs.Prelude.{None, slice_get, unwrap_or}
use Rattle.std.proofs.lemmas.List.{length_push}
use Rattle.std.proofs.lemmas.Option.{unwrap_or-slice_get}
use Rattle.plan_rides.specs.Spans.{AreSpansBefore, IsSpanBefore}
use Rattle.plan_rides.proofs.SpanLaws.{one_more, spans_more}
use Rattle.plan_rides.proofs.spans.spans_before.Goals as goal

pub loop-stop-preserved : goal.loop-stop-preserved
loop-stop-preserved c =
    let was = c.loop-stop.invariant in
    let pushed = c.in_ok-push.ensures.items in
    let feed = c.args.timetable.now in
    let window = c.args.window in
    let spans = c.args.spans.now in
    let boards = c.args.boards.now in
    let stop = c.loop-stop.stop in
    let one = c.span_from-span.result in
    let here = subst (λ own. IsSpanBefore feed window boards (record { 0 = stop }) own one)
    (sym (unwrap_or-slice_get spans stop None)) c.span_from-span.ensures in
    record {
      are = subst (AreSpansBefore feed window spans boards (stop + 1)) (sym pushed)
          (spans_more (λ s. IsSpanBefore feed window boards (record { 0 = s }) (unwrap_or (slice_get spans s) None)) stop
          c.loop-stop.new.items one was.many here was.are);
      many = ap length pushed ∙ length_push c.loop-stop.new.items one ∙ ap (λ n. n + 1) was.many;
    }

pub returns-clause-many : goal.returns-clause-many
returns-clause-many c =
    let past = c.loop-stop-test.false in
    let end = c.loop-stop.auto.stop-end in
    let same : c.loop-stop.stop ≡ length c.args.spans.now = omega (arith, past, end) in
    c.loop-stop.invariant.many ∙ same ∙ c.requires.spans

pub returns-clause-more : goal.returns-clause-more
returns-clause-more c = λ query short serve.
    let past = c.loop-stop-test.false in
    let end = c.loop-stop.auto.stop-end in
    let spans = c.args.spans.now in
    let same : c.loop-stop.stop ≡ length spans = omega (arith, past, end) in
    one_more c.args.timetable.now c.args.window query spans c.args.boards.now c.loop-stop.new.items c.feed-feed.ensures.sound
    c.requires.boards
    (record {
      many = c.loop-stop.invariant.many ∙ same;
      all = λ stop lt. c.loop-stop.invariant.are stop (subst (λ n. stop < n) (sym same) lt);
    })
    short serve
