use Rattle.std.proofs.Common.{sym, arith}
use Rattle.feed_text.specs.Reader.{last_record}
use Rattle.answer_page.proofs.NameLaws.{column_hit, column_none}
use Rattle.answer_page.proofs.names.place_of.Goals as goal

pub returns-then-eq : goal.returns-then-eq
returns-then-eq c =
    let end = c.len-place-end.ensures in
    let below = c.loop-place-test.true in
    sym (column_hit (last_record c.args.records.now) c.args.name.now c.loop-place.place (omega (arith, end, below))
    (rw (c.field.ensures, c.as_bytes.ensures.value) at (sym c.if-eq.ensures)) c.loop-place.invariant)

pub returns : goal.returns
returns c =
    let end = c.len-place-end.ensures in
    let past = c.loop-place-test.false in
    sym (column_none (last_record c.args.records.now) c.args.name.now (λ k inside. c.loop-place.invariant k (omega (arith, end, past, inside))))
