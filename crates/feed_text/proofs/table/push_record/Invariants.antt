use Rattle.std.proofs.Common.{◌≡◌, ◌++◌, take}
use Rattle.feed_text.specs.Reader.{last_record}
use Rattle.feed_text.proofs.table.push_record.Given as goal

abbrev pub invariant-loop-place : goal.invariant-loop-place
invariant-loop-place g l = l.fields ≡ l.fn.fields ++ take l.place (last_record l.records)
