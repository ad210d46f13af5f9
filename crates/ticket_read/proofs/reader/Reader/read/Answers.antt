use Rattle.std.proofs.Common.{◌∙◌, ◌-◌, ap, sym, map, List, ℕ, Option, Some, Bor, arith}
use Rattle.std.proofs.lemmas.List.{length-map}
use Rattle.plain_laws.specs.Plain.{given_last}
use Rattle.ticket_read.specs.declared.reader.Reading.{Reading}
use Rattle.ticket_read.proofs.LoopLaws.{part_there, line_gone, line_missed, all_gone, parts_some}
use Rattle.ticket_read.proofs.reader.Reader.read.Goals as goal

abbrev texts : List (Bor (List ℕ)) → List (List ℕ)
texts parts = map (λ part. part.now) parts

pub returns-then-not-branch : goal.returns-then-not-branch
returns-then-not-branch c =
    let parts = texts c.in_ok-lines.lines.items in
    let long = length-map c.in_ok-lines.lines.items (λ (part : Bor (List ℕ)). part.now) in
    let end = c.len-k-end.ensures in
    let lt = c.loop-k-test.true in
    let low = c.loop-k.auto.k in
    let there = part_there parts (texts c.as_slice.result.now) (c.loop-k.k - 1) c.field-line.result.now (ap texts c.as_slice.ensures.value) c.field-line.ensures
    (omega (arith, long, end, lt, low)) in
    line_missed c.args.self.now.feed c.args.self.now.query c.args.text.now parts c.loop-k.k c.loop-k.reading c.field-line.result.now c.in_ok-lines.ensures low
    (omega (arith, long, end, lt)) there c.loop-k.invariant (rw c.if-not-branch.true at c.in_ok-read_line.ensures)

pub loop-k-preserved : goal.loop-k-preserved
loop-k-preserved c =
    let parts = texts c.in_ok-lines.lines.items in
    let long = length-map c.in_ok-lines.lines.items (λ (part : Bor (List ℕ)). part.now) in
    let end = c.len-k-end.ensures in
    let lt = c.loop-k-test.true in
    let low = c.loop-k.auto.k in
    let there = part_there parts (texts c.as_slice.result.now) (c.loop-k.k - 1) c.field-line.result.now (ap texts c.as_slice.ensures.value) c.field-line.ensures
    (omega (arith, long, end, lt, low)) in
    line_gone c.args.self.now.feed c.args.self.now.query parts c.loop-k.k c.loop-k.reading c.read_line.new.reading c.field-line.result.now low there c.loop-k.invariant
    (rw c.if-not-branch.false at c.in_ok-read_line.ensures)

pub returns-then-not-branch-2 : goal.returns-then-not-branch-2
returns-then-not-branch-2 c =
    let parts = texts c.in_ok-lines.lines.items in
    let long = length-map c.in_ok-lines.lines.items (λ (part : Bor (List ℕ)). part.now) in
    let end = c.len-k-end.ensures in
    let past = c.loop-k-test.false in
    let some = parts_some c.args.text.now parts c.in_ok-lines.ensures in
    let within = c.loop-k.auto.k-end in
    sym (all_gone c.args.self.now.feed c.args.self.now.query c.args.text.now parts c.loop-k.k c.loop-k.reading c.in_ok-lines.ensures (omega (arith, long, end, past))
    (omega (arith, long, end, some, within)) c.loop-k.invariant
    ∙ ap (λ (o : Option Reading). given_last o (λ last. last.done)) (sym (rw c.if-not-branch-2.true at c.in_ok-close.ensures)))

pub returns : goal.returns
returns c =
    let parts = texts c.in_ok-lines.lines.items in
    let long = length-map c.in_ok-lines.lines.items (λ (part : Bor (List ℕ)). part.now) in
    let end = c.len-k-end.ensures in
    let past = c.loop-k-test.false in
    let some = parts_some c.args.text.now parts c.in_ok-lines.ensures in
    let within = c.loop-k.auto.k-end in
    ap Some c.into_done.ensures ∙ sym (all_gone c.args.self.now.feed c.args.self.now.query c.args.text.now parts c.loop-k.k c.loop-k.reading c.in_ok-lines.ensures (omega (arith, long, end, past))
    (omega (arith, long, end, some, within)) c.loop-k.invariant
    ∙ ap (λ (o : Option Reading). given_last o (λ last. last.done)) (sym (rw c.if-not-branch-2.false at c.in_ok-close.ensures)))
