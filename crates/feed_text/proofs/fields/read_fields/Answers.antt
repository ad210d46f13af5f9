use Rattle.std.proofs.Common.{◌≡◌, ◌≤◌, ◌∙◌, ℕ, List, None, ap, map, length, sym, subst, arith}
use Rattle.std.proofs.lemmas.List.{map_more, take_all}
use Rattle.plain_laws.proofs.Laws.{at_item, first_in_found, first_in_next}
use Rattle.plain_laws.specs.Plain.{first_below, first_in}
use Rattle.feed_faults.specs.declared.columns.ColumnRule.{ColumnRule}
use Rattle.feed_faults.specs.FormFaults.{fault_of_field}
use Rattle.feed_text.specs.FieldNumbers.{field_number}
use Rattle.feed_text.proofs.fields.read_fields.Goals as goal

pub returns-in-Err-clause-fault : goal.returns-in-Err-clause-fault
returns-in-Err-clause-fault g c =
    let faults = fault_of_field c.args.file c.args.row (g.F.Fields.at c.args.fields.now) in
    rw (← c.judged_columns-rules.ensures)
    (sym (first_in_found _ faults _ _ _ c.loop-i-test.true c.loop-i.invariant.none c.in-Err.ensures.fault))

pub loop-i-preserved : goal.loop-i-preserved
loop-i-preserved g c =
    let faults = fault_of_field c.args.file c.args.row (g.F.Fields.at c.args.fields.now) in
    record {
      none = first_in_next _ faults _ _ c.loop-i-test.true c.loop-i.invariant.none c.in-Ok.ensures.sound;
      numbers = rw (c.in_ok-push-in-Ok.ensures.items, c.loop-i.invariant.numbers, c.in-Ok.ensures.number)
          (sym (map_more (field_number (g.F.Fields.at c.args.fields.now)) _ c.loop-i.i _ c.loop-i-test.true));
    }

pub returns-clause-fault : goal.returns-clause-fault
returns-clause-fault g c =
    let faults = fault_of_field c.args.file c.args.row (g.F.Fields.at c.args.fields.now) in
    let all : c.loop-i.i ≡ length c.judged_columns-rules.result.now = omega (arith, c.loop-i-test.false, c.loop-i.auto.i-end) in
    let none = subst (λ (n : ℕ). first_below n (at_item c.judged_columns-rules.result.now faults) ≡ None) all c.loop-i.invariant.none in
    sym (subst (λ (rules : List ColumnRule). first_in rules faults ≡ None) c.judged_columns-rules.ensures none)

pub returns-clause-numbers : goal.returns-clause-numbers
returns-clause-numbers g c = λ none.
    let number = field_number (g.F.Fields.at c.args.fields.now) in
    let all : length c.judged_columns-rules.result.now ≤ c.loop-i.i = omega (arith, c.loop-i-test.false) in
    c.loop-i.invariant.numbers ∙ ap (map number) (take_all _ _ all ∙ c.judged_columns-rules.ensures)
