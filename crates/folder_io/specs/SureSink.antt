-- What a sink in memory holds and counted.
use Rattle.std.specs.Prelude.{ℕ, List, Some, Bool}
use Rattle.folder_io.specs.declared.sure_sink.SureSink.{SureSink}
use Rattle.folder_io.specs.CallLogs.{untold}
use Rattle.folder_io.specs.SinkCalls.{SinkState}
use Rattle.folder_io.specs.ReservedRoom.{room_bytes, room_size}

-- what was written
abbrev pub sure_written : SureSink → List ℕ
sure_written sink = room_bytes sink.room

-- how many bytes it takes in all
abbrev pub sure_room : SureSink → ℕ
sure_room sink = room_size sink.room

-- whether the last write failed
abbrev pub sure_failed : SureSink → Bool
sure_failed sink = sink.faults.failed

-- how many writes failed
abbrev pub sure_faults : SureSink → ℕ
sure_faults sink = sink.faults.count

-- what it tells of itself
abbrev pub sure_sink_state : SureSink → SinkState
sure_sink_state sink = record {
  written = Some (sure_written sink);
  failed = sure_failed sink;
  faults = sure_faults sink;
  writes = untold;
}
