use Rattle.std.proofs.Common.{◌∙◌, sym, []}
use Rattle.feed_text.specs.Reader.{last_record}
use Rattle.answer_page.proofs.NameLaws.{text_names, none_named}
use Rattle.answer_page.proofs.names.NameList.read.Goals as goal

pub returns-then-not-branch : goal.returns-then-not-branch
returns-then-not-branch c =
    let all = rw c.if-not-branch.true at (c.in_ok-next_of.ensures.goes_on c.args.bytes.now [] c.of-records.ensures.begins) in
    c.none-list.ensures ∙ sym (none_named c.args.bytes.now c.args.id.now c.args.name.now (sym c.is_text.ensures ∙ c.if-not-is_text.false) (sym (rw all.is_of.told at all.is_table)))

pub returns : goal.returns
returns c =
    let stands = rw c.if-not-branch.false at (c.in_ok-next_of.ensures.goes_on c.args.bytes.now [] c.of-records.ensures.begins) in
    let named = c.in_ok-push_rows.ensures c.args.bytes.now (last_record c.next_of.new.records) stands in
    sym (text_names c.args.bytes.now c.args.id.now c.args.name.now (last_record c.next_of.new.records) c.push_rows.new.self (sym c.is_text.ensures ∙ c.if-not-is_text.false)
    (rw (c.place_of-id.ensures, c.place_of-name.ensures) at named))
