use Rattle.std.proofs.Common.{◌∙◌, ◌+◌, [], ap, length, subst, sym, arith}
use Rattle.std.proofs.lemmas.List.{length_push}
use Rattle.feed_rows.specs.FeedRows.{FeedRows}
use Rattle.plan_rides.specs.Spans.{AreBoardSpans, AreEndSpans, AreSpans, AreSpansFor, IsOneMoreSpan, SpanLists, with_spans}
use Rattle.plan_rides.proofs.SpanLaws.{first_spans, spans_after}
use Rattle.plan_rides.proofs.spans.Spans.of.Goals as goal

pub loop-more-init : goal.loop-more-init
loop-more-init c =
    let feed = c.timetable-timetable.ensures in
    record {
      are = λ query fits goes.
          first_spans c.args.runs.now.feed query c.none-spans.result c.in_ok-stands.stands.items c.none-spans.ensures
          (subst (λ (f : FeedRows). AreEndSpans f query c.in_ok-stands.stands.items) feed
          (c.in_ok-stands.ensures.ends query goes fits.few));
      many = ap (λ (ls : SpanLists). length ls.boards) c.none-spans.ensures
          ∙ sym (ap (λ (ls : SpanLists). length ls.stands) c.none-spans.ensures);
      stops = c.in_ok-stands.ensures.many ∙ ap (λ (f : FeedRows). length f.stops) feed;
    }

pub board_spans-requires : goal.board_spans-requires
board_spans-requires c =
    let few = c.requires in
    let some = c.loop-more.auto._more in
    let test = c.loop-more-test.true in
    record {
      rides = omega (arith, few, some, test);
      many = ap length c.as_slice.ensures.value ∙ c.loop-more.invariant.stops;
    }

pub spans_before-requires : goal.spans_before-requires
spans_before-requires c =
    let feed = sym (ap (λ (f : FeedRows). length f.stops) c.timetable-timetable.ensures) in
    record {
      spans = ap length c.as_slice-in-loop-more-3.ensures.value ∙ c.loop-more.invariant.stops ∙ feed;
      boards = ap length c.as_slice-in-loop-more-4.ensures.value ∙ c.in_ok-boards.ensures.many ∙ feed;
    }

pub loop-more-preserved : goal.loop-more-preserved
loop-more-preserved c =
    let feed = c.args.runs.now.feed in
    let here = c.timetable-timetable.ensures in
    let was = c.loop-more.invariant in
    let lists = c.loop-more.spans in
    let spans = c.loop-more.stands.items in
    let boards = c.in_ok-boards.boards.items in
    let new = c.in_ok-stands-2.stands.items in
    let stands = c.as_slice-in-loop-more-3.ensures.value in
    let by = c.as_slice-in-loop-more-4.ensures.value in
    let pushed = c.in_ok-push.ensures ∙ ap (λ ss. with_spans lists ss c.as_slice-in-loop-more-2.result.now)
    c.as_slice-in-loop-more.ensures.value
    ∙ ap (with_spans lists spans) c.as_slice-in-loop-more-2.ensures.value in
    record {
      are = λ query fits goes.
          let serve = subst (λ ss. AreBoardSpans feed query ss boards) c.as_slice.ensures.value
          (c.in_ok-boards.ensures.boards query fits) in
          let asked = subst (λ (f : FeedRows). AreBoardSpans f query c.as_slice-in-loop-more-3.result.now c.as_slice-in-loop-more-4.result.now) (sym here)
          (subst (λ ss. AreBoardSpans feed query ss c.as_slice-in-loop-more-4.result.now) (sym stands)
          (subst (AreBoardSpans feed query spans) (sym by) serve)) in
          let one = subst (λ ss. IsOneMoreSpan feed query ss new) stands
          (subst (λ (f : FeedRows). IsOneMoreSpan f query c.as_slice-in-loop-more-3.result.now new) here
          (c.in_ok-stands-2.ensures.more query fits.few asked)) in
          subst (λ ls. AreSpans feed query (with_spans ls new [])) (sym pushed)
          (spans_after feed query lists spans boards new was.many serve one (was.are query fits goes));
      many = ap (λ (ls : SpanLists). length ls.boards) pushed ∙ length_push lists.boards boards ∙ ap
          (λ n. n + 1) was.many
          ∙ sym (length_push lists.stands spans) ∙ sym (ap (λ (ls : SpanLists). length ls.stands) pushed);
      stops = c.in_ok-stands-2.ensures.many ∙ ap (λ (f : FeedRows). length f.stops) here;
    }

pub returns : goal.returns
returns c =
    let lists = c.loop-more.spans in
    subst (AreSpansFor c.args.runs.now.feed c.args.runs.now.scope c.args.to c.args.window)
    (sym (c.in_ok-push-2.ensures ∙ ap (λ ss. with_spans lists ss []) c.as_slice-2.ensures.value))
    c.loop-more.invariant.are
