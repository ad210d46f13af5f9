use Rattle.std.proofs.Common.{◌∙◌}
use Rattle.std.proofs.lemmas.List.Sorted.{Contains-permutation, IsPermutation-sym, list_any-IsPermutation}
use Rattle.feed_calendar.specs.CalendarRows.{is_on}
use Rattle.feed_calendar.proofs.RowLaws.{active_by_exception, active_by_rows}
use Rattle.feed_calendar.proofs.Calendar.active.Goals as goal

pub returns-in-Some : goal.returns-in-Some
returns-in-Some c = λ feed are.
    let found = c.in-Some.ensures (rw c.deref.ensures.value are.in_order) in
    active_by_exception feed c.args.service c.args.day.0 c.in-Some.exception are.sound (Contains-permutation _ _ _ (IsPermutation-sym _ _ are.exceptions) (rw c.deref.ensures.value at found.0)) found.1

pub returns-in-None : goal.returns-in-None
returns-in-None c = λ feed are.
    let none = rw c.deref.ensures.value at (c.in-None.ensures (rw c.deref.ensures.value are.in_order)) in
    c.is_covered.ensures ∙ are.rows c.args.service c.args.day.0 ∙ active_by_rows feed c.args.service c.args.day.0 (list_any-IsPermutation (is_on c.args.service c.args.day.0) _ _ are.exceptions ∙ none)
