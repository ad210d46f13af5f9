use Rattle.std.proofs.Common.{◌≡◌, ◌++◌, flat_map, take}
use Rattle.std.specs.Option.{option_to_list}
use Rattle.ticket_explain.specs.CommandLines.{gap_line}
use Rattle.ticket_explain.proofs.audits.push_gaps.Given as goal

abbrev pub invariant-loop-pair : goal.invariant-loop-pair
invariant-loop-pair l = l.text ≡ l.initial.text ++ flat_map (λ pair. option_to_list (gap_line l.feed pair)) (take l.pair-index l.pairs)
