use Rattle.std.proofs.Common.{◌+◌, sym, ◌∙◌, ap, subst, length, arith}
use Rattle.std.specs.Prelude.{None, slice_get, unwrap_or}
use Rattle.std.proofs.lemmas.List.{length_push}
use Rattle.feed_rows.specs.FeedRows.{FeedRows}
use Rattle.plan_rides.specs.Spans.{IsEndSpan}
use Rattle.plan_rides.proofs.SpanLaws.{end_spans, spans_more}
use Rattle.plan_rides.proofs.spans.end_spans.Goals as goal

pub loop-stop-init : goal.loop-stop-init
loop-stop-init c = record {
  are = λ stop below. absurd (omega (arith, below));
  many = ap length c.in_ok-spans.ensures.items;
}

pub loop-stop-preserved : goal.loop-stop-preserved
loop-stop-preserved c =
    let was = c.loop-stop.invariant in
    let pushed = c.in_ok-push.ensures.items in
    let stop = c.loop-stop.stop in
    let one = c.end_span.result in
    let spans = c.loop-stop.spans.items in
    record {
      are = λ s below query goes short.
          subst (λ list. IsEndSpan c.args.timetable.now query (record { 0 = s }) (unwrap_or (slice_get list s) None)) (sym pushed)
          (spans_more (λ n. IsEndSpan c.args.timetable.now query (record { 0 = n })) stop spans one was.many
          (c.end_span.ensures query goes short) (λ n lt. was.are n lt query goes short) s below);
      many = ap length pushed ∙ length_push spans one ∙ ap (λ n. n + 1) was.many;
    }

pub returns-clause-many : goal.returns-clause-many
returns-clause-many c =
    let past = c.loop-stop-test.false in
    let end = c.loop-stop.auto.stop-end in
    let stops = ap length c.items-stops.ensures.value in
    let feed = ap (λ (f : FeedRows). length f.stops) (c.behind-timetable.view_is ∙ c.feed.ensures.value) in
    let many = c.loop-stop.invariant.many in
    omega (arith, past, end, stops, feed, many)

pub returns-clause-ends : goal.returns-clause-ends
returns-clause-ends c = λ query goes short.
    let many = c.loop-stop.invariant.many in
    end_spans c.args.timetable.now query c.loop-stop.stop c.loop-stop.spans.items (omega (arith, many))
    (λ stop lt. c.loop-stop.invariant.are stop lt query goes short)
