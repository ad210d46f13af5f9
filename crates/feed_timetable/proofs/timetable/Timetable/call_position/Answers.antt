use Rattle.std.proofs.Common.{sym}
use Rattle.std.proofs.lemmas.Bool.{eq-eqb}
use Rattle.std.proofs.lemmas.Option.{slice_get_within}
use Rattle.plain_laws.proofs.Laws.{find_below_found}
use Rattle.feed_timetable.proofs.timetable.Timetable.call_position.Goals as goal

pub returns-then-at-sequence : goal.returns-then-at-sequence
returns-then-at-sequence c =
    rw (← c.calls_of-calls.ensures.value)
    (sym (find_below_found _ _ c.loop-position.position (slice_get_within _ _ _ c.at.ensures)
    c.loop-position.invariant
    (rw c.at.ensures (eq-eqb _ _ c.if-at-sequence.true))))
