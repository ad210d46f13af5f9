use Rattle.std.proofs.Common.{◌≡◌, ◌++◌, map, take}
use Rattle.feed_rows.specs.GeneratedTexts.{triple_line}
use Rattle.ticket_explain.proofs.generated.push_triples.Given as goal

abbrev pub invariant-loop-entry : goal.invariant-loop-entry
invariant-loop-entry l = l.text ≡ l.initial.text ++ map (triple_line l.feed) (map (λ entry. entry.triple) (take l.entry-index l.entries))
