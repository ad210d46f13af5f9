use Rattle.std.proofs.Common.{◌<◌, ◌∙◌, ap, length, subst, sym, arith}
use Rattle.feed_rows.specs.FeedRows.{FeedRows}
use Rattle.plan_rides.specs.Scopes.{HeldFor}
use Rattle.plan_rides.specs.Spans.{AreBoardSpans, FitsScope}
use Rattle.plan_rides.proofs.BoardLaws.{all_boards}
use Rattle.plan_rides.proofs.MarkLaws.{marks_back}
use Rattle.plan_rides.proofs.held.SpanRuns.board_spans.Goals as goal

pub returns-clause-many : goal.returns-clause-many
returns-clause-many c =
    let new = c.add_patterns.new.boards in
    let ok = c.in_ok-boards.boards.ok.0 in
    let stops = ap length (c.items-stops.ensures.value ∙ ap (λ (f : FeedRows). f.stops) (c.behind-timetable.view_is ∙ c.feed.ensures.value)) in
    let long = c.in_ok-boards.ensures.len in
    let many = c.add_patterns.ensures.many ∙ ap length c.deref_mut.ensures.value in
    let back = marks_back c.in_ok-boards.boards.items new c.in_ok-boards.boards.len (omega (arith, ok)) many in
    let held = ap (λ (h : HeldFor). length h.feed.stops) c.self.view_is in
    ap length back ∙ omega (arith, many, long, stops, held, ok)

pub returns-clause-boards : goal.returns-clause-boards
returns-clause-boards c =
    let me = c.args.self.now in
    let inside = c.self.inside in
    let feed = inside.timetable.now in
    let spans = c.args.spans.now in
    let new = c.add_patterns.new.boards in
    let items = c.in_ok-boards.boards.items in
    let ok = c.in_ok-boards.boards.ok.0 in
    let adds = c.add_patterns.ensures in
    let back = marks_back items new c.in_ok-boards.boards.len (omega (arith, ok)) (adds.many
    ∙ ap length c.deref_mut.ensures.value) in
    let more = subst (λ (h : HeldFor). 1 < h.scope.rides) (sym c.self.view_is) c.requires.rides in
    λ query fits.
    let here = subst (λ (h : HeldFor). FitsScope h.scope c.args.window query) (sym c.self.view_is) fits in
    let all = all_boards feed inside.sought c.args.window spans c.deref_mut.result.now new inside.patterns c.self.invariant.3
    c.self.invariant.2 more adds query here in
    subst (AreBoardSpans me.feed query spans) (sym back)
    (subst (λ (h : HeldFor). AreBoardSpans h.feed query spans new) c.self.view_is all)
