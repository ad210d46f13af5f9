use Rattle.std.proofs.Common.{◌∙◌, sym, ◌∷◌, ◌++◌, []}
use Rattle.feed_text.specs.Reader.{last_record}
use Rattle.answer_page.proofs.NameLaws.{pairs_more}
use Rattle.answer_page.proofs.names.NameList.push_rows.Goals as goal

pub returns-then-not-branch : goal.returns-then-not-branch
returns-then-not-branch c text header begins =
    let past = c.loop.invariant.rows text header begins in
    let all = rw c.if-not-branch.true at (c.in_ok-next_of.ensures.goes_on text (header ∷ past.0) past.1) in
    record { rows = past.0; is_table = sym (rw all.is_of.told at all.is_table); is_named = past.2 }

pub loop-preserved : goal.loop-preserved
loop-preserved c =
    record {
      going = c.in_ok-next_of.ensures.going ∙ c.if-not-branch.false;
      rows = λ text header begins.
          let past = c.loop.invariant.rows text header begins in
          let row = last_record c.next_of.new.records in
          let stands = rw c.if-not-branch.false at (c.in_ok-next_of.ensures.goes_on text (header ∷ past.0) past.1) in (
            past.0 ++ row ∷ [],
            stands,
            c.in_ok-push.ensures ∙ (rw (c.cell.ensures, c.cell-in-loop.ensures, past.2) (pairs_more c.args.id c.args.name past.0 row)),
          );
    }
