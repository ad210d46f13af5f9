use Rattle.std.proofs.Common.{rules, w64, arith}
use Rattle.std.specs.Prelude.{FitsSigned}
use Rattle.std.proofs.lemmas.Int.{to_z-of_z}
use Rattle.std.proofs.lemmas.List.Sorted.{answers_always, searchable_from_sorted}
use Rattle.feed_calendar.specs.CalendarRows.{service_day_key}
use Rattle.feed_calendar.proofs.RowLaws.{found_on, none_on, key_order}
use Rattle.feed_calendar.proofs.exception_on.Goals as goal

pub returns-in-Ok : goal.returns-in-Ok
returns-in-Ok c = λ up.
    let position = c.in-Ok.ensures.position service_day_key (answers_always _ _ _ (λ f a r g h. search rules)) in
    let fits : FitsSigned w64 c.args.day.0 = search rules in
    let here = simp to_z-of_z at position in
    found_on _ _ _ _ _ c.in-Ok.ensures.bound here

pub returns-in-Err : goal.returns-in-Err
returns-in-Err c = λ up.
    let position = c.in-Err.ensures.position service_day_key (answers_always _ _ _ (λ f a r g h. search rules)) in
    let fits : FitsSigned w64 c.args.day.0 = search rules in
    let here = simp to_z-of_z at position in
    let parted = here (searchable_from_sorted key_order service_day_key c.args.exceptions.now (c.args.service.0, c.args.day.0) up) in
    none_on c.args.service c.args.day.0 c.args.exceptions.now c.in-Err.field-0 (λ k d lt below. parted.0 k d (omega arith) below) parted.1
