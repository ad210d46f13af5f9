use Rattle.std.proofs.Common.{◌≡◌, ◌∙◌, sym, ap, subst, length, true, arith}
use Rattle.std.specs.Prelude.{IsTrue}
use Rattle.feed_rows.specs.Journeys.{stands_for}
use Rattle.feed_rows.specs.StopLinks.{stop_set}
use Rattle.plan_rides.specs.Boarding.{is_marked}
use Rattle.plan_rides.proofs.MarkLaws.{marks_all, marks_back}
use Rattle.plan_rides.proofs.sought.first_marks.Goals as goal

pub returns : goal.returns
returns c =
    let feed = c.args.timetable.now in
    let ok = c.in_ok-marks.marks.ok.0 in
    let many = c.mark_all.ensures.many ∙ ap length c.deref_mut.ensures.value in
    let back = marks_back c.in_ok-marks.marks.items c.mark_all.new.marks c.in_ok-marks.marks.len
    (omega (arith, ok)) many in
    λ query own first stands stop way is.
    subst (λ marks. is_marked marks stop.0 ≡ true) (sym back)
    (marks_all feed query c.members.result.now c.mark_all.new.marks (c.members.ensures ∙ ap (stop_set feed) (sym own))
    (c.mark_all.ensures.all query) first (subst (λ s. IsTrue (stands_for feed s first)) (sym own) stands) stop way is)
