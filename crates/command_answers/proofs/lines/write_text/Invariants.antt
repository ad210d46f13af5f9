use Rattle.std.proofs.Common.{take}
use Rattle.command_answers.specs.Written.{WritesAll}
use Rattle.command_answers.proofs.lines.write_text.Given as goal

abbrev pub invariant-loop-number : goal.invariant-loop-number
invariant-loop-number g l = WritesAll (g.S.Sink.state l.fn.sink) (take l.number l.text) (g.S.Sink.state l.sink)
