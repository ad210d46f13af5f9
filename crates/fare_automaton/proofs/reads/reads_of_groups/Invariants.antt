-- What rows read of the groups so far.
use Rattle.std.proofs.Common.{◌≡◌}
use Rattle.plain_laws.specs.Plain.{list_below}
use Rattle.fare_automaton.specs.Compiled.{reads_of}
use Rattle.fare_automaton.proofs.reads.reads_of_groups.Given as goal

abbrev pub invariant-loop-group : goal.invariant-loop-group
invariant-loop-group l = l.reads.items ≡ list_below l.group (λ group. reads_of l.feed (record { 0 = group }))
