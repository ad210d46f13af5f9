use Rattle.std.proofs.Common.{◌≡◌, length}
use Rattle.std.specs.Prelude.{reverse}
use Rattle.feed_faults.specs.Records.{cut_start}
use Rattle.feed_text.proofs.records.trimmed.Given as goal

abbrev pub invariant-start : goal.invariant-start
invariant-start l = cut_start l.text ≡ cut_start l.fn.text

abbrev pub decreases-start : goal.decreases-start
decreases-start l = length l.text

abbrev pub invariant-end : goal.invariant-end
invariant-end l = cut_start (reverse l.text) ≡ cut_start (reverse (cut_start l.fn.text))

abbrev pub decreases-end : goal.decreases-end
decreases-end l = length l.text
