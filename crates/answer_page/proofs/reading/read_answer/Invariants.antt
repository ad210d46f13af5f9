use Rattle.std.proofs.Common.{◌≡◌, drop, map}
use Rattle.answer_page.specs.Readings.{read_answer, read_parts}
use Rattle.answer_page.proofs.reading.read_answer.Given as goal

abbrev pub invariant-loop-place : goal.invariant-loop-place
invariant-loop-place l =
    read_answer l.text ≡ read_parts l.reading l.place (drop l.place (map (λ part. part.now) l.lines.items))
