use Rattle.std.proofs.Common.{◌≡◌, ◌++◌, take, flat_map}
use Rattle.ticket_explain.specs.Fields.{behind_tab}
use Rattle.ticket_explain.proofs.line.Line.push_all.Given as goal

abbrev pub invariant-loop-field : goal.invariant-loop-field
invariant-loop-field l = l.self ≡ l.fn.self ++ flat_map behind_tab (take l.field-index l.fields)
