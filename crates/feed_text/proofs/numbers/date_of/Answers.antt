use Rattle.std.proofs.Common.{◌≡◌, ◌-◌, length, take, drop, sym, ◌∙◌, arith, length-drop}
use Rattle.std.proofs.lemmas.List.{take_all}
use Rattle.feed_text.proofs.DateLaws.{no_date, date_by_parts}
use Rattle.feed_text.proofs.numbers.date_of.Goals as goal

pub returns-then-text-ne8 : goal.returns-then-text-ne8
returns-then-text-ne8 c = sym (no_date c.args.text.now c.if-text-ne8.true)

pub returns : goal.returns
returns c =
    let text = c.args.text.now in
    let rest : take (length text - 6) (drop 6 text) ≡ drop 6 text = take_all (length text - 6) (drop 6 text) (omega (arith, length-drop 6 text)) in
    c.day_of_parts.ensures ∙ rw rest (sym (date_by_parts text c.if-text-ne8.false))
