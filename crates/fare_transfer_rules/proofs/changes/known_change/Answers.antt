-- With both clocks known, a limit holds by the seconds elapsed alone.
use Rattle.std.proofs.Common.{◌≡◌, refl, ap, Bool, true, false}
use Rattle.std.specs.Prelude.{if◌then◌else◌, ◌&&◌}
use Rattle.std.proofs.Math.Path.{fun_ext}
use Rattle.feed_rows.specs.declared.rows.Limit.{Limit}
use Rattle.feed_rows.specs.TransferRules.{limit_holds}
use Rattle.feed_rows.specs.FareStates.{counts_from_departure}
use Rattle.fare_transfer_rules.proofs.changes.known_change.Goals as goal

either : (b : Bool) → (if b then true else true) ≡ true
either true = refl
either false = refl

pub returns : goal.returns
returns c =
    let facts = c.args.facts.now in
    rw c.from.ensures
    (ap (λ (holds : Limit → Bool). record { from = facts.from; to = facts.to; count = facts.count; holds = holds })
    (fun_ext (λ limit. ap (λ b. b && limit_holds facts limit) (either (counts_from_departure limit.kind)))))
