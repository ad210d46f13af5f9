use Rattle.command_answers.proofs.WrittenLaws.{none_written, one_more_written, failed_behind}
use Rattle.command_answers.proofs.lines.write_text.Goals as goal

pub loop-number-init : goal.loop-number-init
loop-number-init g c = none_written (g.S.Sink.state c.args.sink.now) c.args.text.now

pub returns-in-Failed : goal.returns-in-Failed
returns-in-Failed g c =
    let write = c.in-Failed.ensures in
    failed_behind (g.S.Sink.state c.args.sink.now) (g.S.Sink.state c.loop-number.sink) _ c.args.text.now
    c.loop-number.number c.line.result.now c.line.ensures c.loop-number.invariant
    write.counts write.failed write.written write.writes

pub loop-number-preserved : goal.loop-number-preserved
loop-number-preserved g c =
    let write = c.in-All.ensures in
    one_more_written (g.S.Sink.state c.args.sink.now) (g.S.Sink.state c.loop-number.sink) _ c.args.text.now
    c.loop-number.number c.line.result.now c.line.ensures c.loop-number.invariant
    write.counts write.written write.writes
