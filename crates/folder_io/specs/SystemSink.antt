-- The counts of standard output.
use Rattle.std.specs.Prelude.{ℕ, None, Bool, false}
use Rattle.folder_io.specs.declared.system_sink.StdSink.{StdSink}
use Rattle.folder_io.specs.CallLogs.{untold}
use Rattle.folder_io.specs.SinkCalls.{SinkState}

-- whether the last write failed
abbrev pub output_failed : {R : Type 0} → StdSink R → Bool
output_failed sink = sink.faults.failed

-- how many writes failed
abbrev pub output_faults : {R : Type 0} → StdSink R → ℕ
output_faults sink = sink.faults.count

-- what it tells of itself: nothing of what was written
abbrev pub output_state : {R : Type 0} → StdSink R → SinkState
output_state sink = record {
  written = None;
  failed = output_failed sink;
  faults = output_faults sink;
  writes = untold;
}

-- what it tells of itself before the first write
abbrev pub unwritten_output : SinkState
unwritten_output = record { written = None; failed = false; faults = 0; writes = untold }
