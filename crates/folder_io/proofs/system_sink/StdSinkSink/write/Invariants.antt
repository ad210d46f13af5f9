use Rattle.std.proofs.Common.{◌≡◌, false, length}
use Rattle.folder_io.proofs.system_sink.StdSinkSink.write.Given as goal

abbrev pub invariant-loop-rest : goal.invariant-loop-rest
invariant-loop-rest g l = record {
  none_failed : l.self.faults.failed ≡ false;
  stayed : l.self.faults.count ≡ l.fn.self.faults.count;
}

abbrev pub decreases-loop-rest : goal.decreases-loop-rest
decreases-loop-rest g l = length l.rest
