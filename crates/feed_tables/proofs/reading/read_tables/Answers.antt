use Rattle.std.proofs.Common.{◌≡◌, ◌≤◌, ◌+◌, ◌++◌, ◌∷◌, [], ◌∙◌, ap, sym, subst, ℕ, None, length, map, arith}
use Rattle.std.proofs.lemmas.List.{map_more, take_all}
use Rattle.plain_laws.proofs.Laws.{at_item, first_in_next}
use Rattle.std.proofs.lemmas.Grind.{common_steps}
use Rattle.plain_laws.specs.Plain.{first_below, first_in}
use Rattle.feed_text.specs.TextErrors.{IsErrorOf}
use Rattle.feed_faults.specs.FormFaults.{form_fault}
use Rattle.folder_io.specs.KeptFiles.{held_in}
use Rattle.feed_tables.specs.LeftFiles.{AreLeft}
use Rattle.feed_tables.specs.RowNumbers.{read_of}
use Rattle.feed_tables.proofs.PassLaws.{error_at}
use Rattle.feed_tables.proofs.TakenFiles.{next_fault, next_read, left_next}
use Rattle.feed_tables.proofs.reading.read_tables.Goals as goal

pub loop-i-preserved : goal.loop-i-preserved
loop-i-preserved c =
    let before = c.loop-i.invariant in
    let order = c.requires.order in
    let lt = c.loop-i-test.true in
    let taken = c.in_ok-table.ensures in
    let pushed : c.push.new.self.items ≡ c.loop-i.tables.items ++ c.in_ok-table.table ∷ [] = rw (← c.in_ok-map_err.ensures.variant) at c.push.ensures.items in
    let left = before.left order.0 order.1 in
    record {
      tables = rw (pushed, before.tables, taken.table, next_read c.args.files.now c.loop-i.files c.args.names.now order.0 c.loop-i.i _ order.1 lt left)
          (sym (map_more (read_of (held_in c.args.files.now)) c.args.names.now c.loop-i.i _ lt));
      none = first_in_next c.args.names.now (form_fault (held_in c.args.files.now)) c.loop-i.i _ lt before.none (sym (next_fault c.args.files.now c.loop-i.files c.args.names.now order.0 c.loop-i.i _ order.1 lt left) ∙ taken.sound);
      left = λ n stand. left_next c.args.files.now c.loop-i.files c.args.names.now n c.loop-i.i _ stand lt (before.left n stand) c.read_file.new.files taken.others;
      within = taken.within;
    }

pub returns-in_err-table-clause-fault : goal.returns-in_err-table-clause-fault
returns-in_err-table-clause-fault c =
    let before = c.loop-i.invariant in
    let order = c.requires.order in
    let left = before.left order.0 order.1 in
    let first : IsErrorOf (first_in c.args.names.now (form_fault (held_in c.args.files.now))) c.in_err-table.field-0.0 =
    error_at c.args.names.now (form_fault (held_in c.args.files.now)) c.loop-i.i _ c.in_err-table.field-0.0 c.loop-i-test.true before.none
    (subst (λ o. IsErrorOf o c.in_err-table.field-0.0) (next_fault c.args.files.now c.loop-i.files c.args.names.now order.0 c.loop-i.i _ order.1 c.loop-i-test.true left) c.in_err-table.ensures.fault) in
    grind (arith, common_steps, first)

pub returns-clause-sound : goal.returns-clause-sound
returns-clause-sound c =
    let all : c.loop-i.i ≡ length c.args.names.now = omega (arith, c.loop-i-test.false, c.loop-i.auto.i-end) in
    subst (λ (n : ℕ). first_below n (at_item c.args.names.now (form_fault (held_in c.args.files.now))) ≡ None) all c.loop-i.invariant.none

pub returns-clause-tables : goal.returns-clause-tables
returns-clause-tables c =
    let all : length c.args.names.now ≤ c.loop-i.i = omega (arith, c.loop-i-test.false) in
    c.loop-i.invariant.tables ∙ ap (map (read_of (held_in c.args.files.now))) (take_all _ _ all)

pub returns-clause-left : goal.returns-clause-left
returns-clause-left c =
    let all : c.loop-i.i ≡ length c.args.names.now = omega (arith, c.loop-i-test.false, c.loop-i.auto.i-end) in
    λ n stand. subst (λ (i : ℕ). AreLeft c.args.files.now c.loop-i.files (n + i)) all (c.loop-i.invariant.left n stand)
