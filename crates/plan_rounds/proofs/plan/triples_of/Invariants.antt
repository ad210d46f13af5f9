use Rattle.std.specs.Prelude.{◌≡◌, map, take}
use Rattle.feed_rows.specs.declared.fares.Entry.{Entry}
use Rattle.plan_rounds.proofs.plan.triples_of.Given as goal

abbrev pub invariant-loop-entry : goal.invariant-loop-entry
invariant-loop-entry l = l.triples.items ≡ map (λ (entry : Entry). entry.triple) (take l.entry-index l.entries)
