use Rattle.std.proofs.Common.{◌≡◌}
use Rattle.std.specs.Prelude.{not}
use Rattle.plain_laws.specs.Plain.{picks_below}
use Rattle.fare_audit.specs.Found.{is_marked}
use Rattle.fare_audit.proofs.report.unused.Given as goal

abbrev pub invariant-loop-number : goal.invariant-loop-number
invariant-loop-number l = l.rules.items ≡ picks_below l.number (λ i. not (is_marked l.used i)) (λ i. record { 0 = i })
