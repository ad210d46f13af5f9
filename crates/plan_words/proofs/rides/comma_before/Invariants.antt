use Rattle.std.proofs.Common.{◌≡◌, ◌<◌}
use Rattle.std.specs.Prelude.{IfSome}
use Rattle.feed_rows.specs.RideWords.{comma_before}
use Rattle.plan_words.proofs.rides.comma_before.Given as goal

abbrev pub invariant-loop-i : goal.invariant-loop-i
invariant-loop-i l = record {
  last : l.comma ≡ comma_before l.word l.i;
  within : IfSome l.comma (λ comma. comma < l.i);
}
