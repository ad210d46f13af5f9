use Rattle.std.proofs.Common.{◌≡◌, ◌∙◌, ◌<◌, ap, map, length, get_or, [], List, ℕ, Bor, arith}
use Rattle.std.proofs.lemmas.List.{length-map}
use Rattle.std.proofs.lemmas.Option.{unwrap_or-slice_get}
use Rattle.line_cuts.specs.Cuts.{field}
use Rattle.answer_page.specs.Readings.{read_line}
use Rattle.answer_page.proofs.ReadLaws.{part_read, part_wrong, all_read, ends_early, begins}
use Rattle.answer_page.proofs.reading.read_answer.Goals as goal

abbrev texts : List (Bor (List ℕ)) → List (List ℕ)
texts parts = map (λ part. part.now) parts

pub loop-place-init : goal.loop-place-init
loop-place-init c = rw c.start-reading.ensures (begins c.args.text.now (texts c.in_ok-lines.lines.items) c.in_ok-lines.ensures)

pub returns-then-not-branch-clause-err : goal.returns-then-not-branch-clause-err
returns-then-not-branch-clause-err c =
    let parts = texts c.in_ok-lines.lines.items in
    let long = length-map c.in_ok-lines.lines.items (λ (part : Bor (List ℕ)). part.now) in
    let end = c.len-place-end.ensures in
    let below = c.loop-place-test.true in
    let inside : c.loop-place.place < length parts = omega (arith, long, end, below) in
    let there : c.field.result.now ≡ get_or parts c.loop-place.place [] =
    c.field.ensures ∙ ap (λ xs. field (texts xs) c.loop-place.place) c.as_slice.ensures.value ∙ unwrap_or-slice_get parts c.loop-place.place [] in
    c.loop-place.invariant
    ∙ part_wrong parts c.loop-place.reading c.loop-place.place inside (
    (rw c.if-not-branch.true at c.in_ok-read_line.ensures) ∙ ap (read_line c.loop-place.reading) there)

pub loop-place-preserved : goal.loop-place-preserved
loop-place-preserved c =
    let parts = texts c.in_ok-lines.lines.items in
    let long = length-map c.in_ok-lines.lines.items (λ (part : Bor (List ℕ)). part.now) in
    let end = c.len-place-end.ensures in
    let below = c.loop-place-test.true in
    let inside : c.loop-place.place < length parts = omega (arith, long, end, below) in
    let there : c.field.result.now ≡ get_or parts c.loop-place.place [] =
    c.field.ensures ∙ ap (λ xs. field (texts xs) c.loop-place.place) c.as_slice.ensures.value ∙ unwrap_or-slice_get parts c.loop-place.place [] in
    c.loop-place.invariant
    ∙ part_read parts c.loop-place.reading c.read_line.new.self c.loop-place.place inside (
    (rw c.if-not-branch.false at c.in_ok-read_line.ensures) ∙ ap (read_line c.loop-place.reading) there)

pub returns-then-not-reading-clause-err : goal.returns-then-not-reading-clause-err
returns-then-not-reading-clause-err c =
    let parts = texts c.in_ok-lines.lines.items in
    let long = length-map c.in_ok-lines.lines.items (λ (part : Bor (List ℕ)). part.now) in
    let end = c.len-place-end.ensures in
    let past = c.loop-place-test.false in
    let low = c.loop-place.auto.place-end in
    let same : c.len.result ≡ c.loop-place.place = (let size = c.len.ensures in omega (arith, end, past, low, size)) in
    rw same (c.loop-place.invariant ∙ ends_early parts c.loop-place.reading c.loop-place.place (omega (arith, long, end, past)) c.if-not-reading.true)

pub returns-clause-ok : goal.returns-clause-ok
returns-clause-ok c =
    let parts = texts c.in_ok-lines.lines.items in
    let long = length-map c.in_ok-lines.lines.items (λ (part : Bor (List ℕ)). part.now) in
    let end = c.len-place-end.ensures in
    let past = c.loop-place-test.false in
    rw c.into_answer.ensures (
    c.loop-place.invariant ∙ all_read parts c.loop-place.reading c.loop-place.place (omega (arith, long, end, past)) c.if-not-reading.false)
