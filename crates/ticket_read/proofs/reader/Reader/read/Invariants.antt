use Rattle.std.proofs.Common.{◌≡◌, ◌-◌, map, Some}
use Rattle.plain_laws.specs.Plain.{after_first}
use Rattle.ticket_read.specs.Readings.{start, read_line}
use Rattle.ticket_read.proofs.reader.Reader.read.Given as goal

abbrev pub invariant-loop-k : goal.invariant-loop-k
invariant-loop-k l = after_first (read_line l.self.feed l.self.query) start (map (λ part. part.now) l.lines.items) (l.k - 1) ≡ Some l.reading
