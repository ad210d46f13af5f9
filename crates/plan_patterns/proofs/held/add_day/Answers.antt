use Rattle.std.proofs.Common.{◌∙◌, ap, sym, append-nil}
use Rattle.feed_rows.specs.Calls.{calls_of}
use Rattle.plan_patterns.specs.HeldRuns.{has_ended, held_on_day}
use Rattle.plan_patterns.proofs.HeldLaws.{none_held}
use Rattle.plan_patterns.proofs.held.add_day.Goals as goal

pub returns-then-has_ended : goal.returns-then-has_ended
returns-then-has_ended c =
    let ended = ap (λ zs. has_ended c.args.span.now c.args.trip c.args.day zs (calls_of c.args.timetable.now c.args.trip)) (sym c.requires.shifts)
    ∙ ap (has_ended c.args.span.now c.args.trip c.args.day c.args.shifts.now) (sym c.calls_of-calls.ensures.value) ∙ sym c.has_ended.ensures ∙ c.if-has_ended.true in
    rw (none_held c.args.timetable.now c.args.span.now c.args.trip c.args.day c.requires.sound ended) (sym (append-nil c.args.runs.now.items))

pub returns : goal.returns
unfolding held_on_day
returns c = rw (c.requires.runs, ← c.requires.shifts, ← c.calls_of-calls.ensures.value) c.add_held.ensures
