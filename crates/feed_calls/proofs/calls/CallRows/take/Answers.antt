use Rattle.std.proofs.Common.{◌∙◌, refl, sym, ap, ◌++◌, ◌∷◌, []}
use Rattle.feed_text.specs.Reader.{last_record}
use Rattle.feed_calls.proofs.CallLaws.{keeps_fault, finds_fault, adds_row}
use Rattle.feed_calls.proofs.calls.CallRows.take.Goals as goal

pub returns-then-is_some : goal.returns-then-is_some
returns-then-is_some g c = λ head rows count has.
    keeps_fault c.args.ids.now head rows (last_record c.args.records.now) c.args.self.now _ has refl c.in_ok-see.ensures (sym c.is_some.ensures ∙ c.if-is_some.true) refl

pub returns-in_ok-push-in-Ok : goal.returns-in_ok-push-in-Ok
returns-in_ok-push-in-Ok g c = λ head rows count has.
    let own = rw (c.of-record.ensures, has.header_is, count) at c.in-Ok.ensures.sound in
    let call = rw (c.of-record.ensures, has.header_is) at c.in-Ok.ensures.row in
    adds_row c.args.ids.now head rows (last_record c.args.records.now) c.args.self.now _ has refl c.in_ok-see.ensures (sym c.is_some.ensures ∙ c.if-is_some.false) own refl
    (c.in_ok-push-in-Ok.ensures ∙ ap (λ call. c.args.self.now.read.calls ++ call ∷ []) call)

pub returns-in-Err : goal.returns-in-Err
returns-in-Err g c = λ head rows count has.
    let own = rw (c.of-record.ensures, has.header_is, count) at c.in-Err.ensures.fault in
    finds_fault c.args.ids.now head rows (last_record c.args.records.now) c.args.self.now _ has refl c.in_ok-see.ensures c.in-Err.fault (sym c.is_some.ensures ∙ c.if-is_some.false) own refl
