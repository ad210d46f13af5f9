-- The count of a sink that never fails.
use Rattle.std.specs.Prelude.{ℕ, None, false}
use Rattle.folder_io.specs.declared.count_sink.CountSink.{CountSink}
use Rattle.folder_io.specs.CallLogs.{untold}
use Rattle.folder_io.specs.SinkCalls.{SinkState}

-- how many writes failed
abbrev pub count_faults : CountSink → ℕ
count_faults sink = sink.faults

-- what it tells of itself
abbrev pub count_sink_state : CountSink → SinkState
count_sink_state sink = record {
  written = None;
  failed = false;
  faults = count_faults sink;
  writes = untold;
}
