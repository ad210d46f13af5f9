-- What a sink in memory whose writes may fail holds, what it counted, and which of its writes fail.
use Rattle.std.specs.Prelude.{ℕ, List, Some, Bool}
use Rattle.folder_io.specs.declared.memory_sink.MemSink.{MemSink}
use Rattle.folder_io.specs.CallLogs.{CallLog, counted}
use Rattle.folder_io.specs.SinkCalls.{SinkState}
use Rattle.folder_io.specs.CutWrites.{CutWrites}
use Rattle.folder_io.specs.ReservedRoom.{room_bytes, room_size}

-- what was written
abbrev pub memory_written : MemSink → List ℕ
memory_written sink = room_bytes sink.room

-- how many bytes it takes in all
abbrev pub memory_room : MemSink → ℕ
memory_room sink = room_size sink.room

-- which writes fail, and how many were made
abbrev pub memory_cuts : MemSink → CutWrites
memory_cuts sink = record { cuts = sink.cuts.items; writes_made = sink.writes }

-- whether the last write failed
abbrev pub memory_sink_failed : MemSink → Bool
memory_sink_failed sink = sink.faults.failed

-- how many writes failed
abbrev pub memory_sink_faults : MemSink → ℕ
memory_sink_faults sink = sink.faults.count

-- its writes, of which it tells how many there were
abbrev pub memory_writes : MemSink → CallLog
memory_writes sink = counted sink.writes

-- what it tells of itself
abbrev pub memory_sink_state : MemSink → SinkState
memory_sink_state sink = record {
  written = Some (memory_written sink);
  failed = memory_sink_failed sink;
  faults = memory_sink_faults sink;
  writes = memory_writes sink;
}
