use Rattle.std.proofs.Common.{◌∙◌, sym, ap, arith}
use Rattle.std.proofs.lemmas.Grind.{common_steps}
use Rattle.std.proofs.lemmas.Result.{IfOk-weaker, IfErr-weaker}
use Rattle.feed_faults.specs.FirstFault.{first_fault}
use Rattle.feed_text.specs.TextErrors.{IsErrorOf}
use Rattle.folder_io.specs.KeptFiles.{held_in}
use Rattle.feed_tables.specs.IdColumns.{call_ids}
use Rattle.feed_tables.specs.KeptTables.{tables_with}
use Rattle.feed_check.proofs.FileLaws.{first_error, first_stand}
use Rattle.feed_check.proofs.ReadFiles.{held_so, on_accepted}
use Rattle.feed_check.proofs.files.check.Goals as goal

pub returns-in_err-first-clause-fault : goal.returns-in_err-first-clause-fault
returns-in_err-first-clause-fault c =
    let first : IsErrorOf (first_fault (held_in c.args.files)) c.in_err-first.field-0.0 =
    first_error (held_in c.args.files) c.in_err-first.field-0.0 (rw c.all.ensures at c.in_err-first.ensures.fault) in
    grind (arith, common_steps, first)

pub feed_behind-requires-clause-read : goal.feed_behind-requires-clause-read
feed_behind-requires-clause-read c = (
  held_in c.args.files,
  held_so c.args.files c.read_tables.new.files c.put.new.self _ _ _ ((rw c.all.ensures at c.in_ok-first.ensures.left) 0 first_stand) c.put.ensures.others
      (c.deref-2.ensures.value ∙ rw c.all.ensures at c.in_ok-first.ensures.tables) (rw c.all.ensures at c.in_ok-first.ensures.sound)
      (λ table others. c.in_ok-ids.ensures table others ∙ ap (λ first. call_ids (tables_with first table others)) (c.deref.ensures.value ∙ sym c.deref-2.ensures.value))
      (rw c.get.ensures at c.held_stop_times-calls.ensures),
)

pub returns : goal.returns
returns c =
    let read = held_so c.args.files c.read_tables.new.files c.put.new.self _ _ _ ((rw c.all.ensures at c.in_ok-first.ensures.left) 0 first_stand) c.put.ensures.others
    (c.deref-2.ensures.value ∙ rw c.all.ensures at c.in_ok-first.ensures.tables) (rw c.all.ensures at c.in_ok-first.ensures.sound)
    (λ table others. c.in_ok-ids.ensures table others ∙ ap (λ first. call_ids (tables_with first table others)) (c.deref.ensures.value ∙ sym c.deref-2.ensures.value))
    (rw c.get.ensures at c.held_stop_times-calls.ensures) in
    record {
      fault = IfErr-weaker c.feed_behind.result _ _ (λ why refuses. refuses.is_first _ read) c.feed_behind.ensures.fault;
      sound = on_accepted c.feed_behind.result _ _ c.feed_behind.ensures.feed (λ feed accepts. accepts.accepted _ read);
      feed = IfOk-weaker c.feed_behind.result _ _ (λ feed accepts. accepts.is_feed _ read) c.feed_behind.ensures.feed;
    }
