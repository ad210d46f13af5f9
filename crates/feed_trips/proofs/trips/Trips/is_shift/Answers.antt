use Rattle.std.proofs.Common.{◌≡◌, ◌∙◌, ◌<◌, ◌==◌, sym, ap, rules, false, length, ℕ, ℤ, pos, ◌+ℤ◌, arith}
use Rattle.std.specs.List.{list_any}
use Rattle.std.proofs.lemmas.Bool.Decides.{nat_tests}
use Rattle.std.proofs.lemmas.Int.{to_z-of_z}
use mir.Syntax.{w64}
use mir.Val.{SFits}
use Rattle.feed_rows.specs.declared.rows.FrequencyRow.{FrequencyRow}
use Rattle.feed_rows.specs.Shifts.{is_run_start}
use Rattle.feed_trips.proofs.RunLaws.{is_shift_rows}
use Rattle.feed_trips.proofs.trips.Trips.is_shift.Goals as goal

pub returns : goal.returns
returns c =
    let rows = c.frequencies_of-rows.result.now in
    let none : (length rows == 0) ≡ false = sym c.is_empty.ensures ∙ c.if-is_empty.false in
    let some : 0 < length rows = grind (arith, nat_tests, none) in
    let second = c.shifted.ensures ∙ ap (λ (z : ℤ). z +ℤ pos c.first_departure.result) (to_z-of_z w64 c.args.shift c.ranges.shift) ∙ ap (λ (n : ℕ). c.args.shift +ℤ pos n) c.first_departure.ensures in
    let fits : SFits w64 c.shifted.result = search rules in
    let runs = rw (to_z-of_z w64 c.shifted.result fits) at c.has_run_at.ensures in
    runs ∙ ap (λ (z : ℤ). list_any (λ (f : FrequencyRow). is_run_start f z) rows) second ∙ sym (is_shift_rows c.args.self.now c.args.trip rows c.args.shift c.frequencies_of-rows.ensures.runs some)
