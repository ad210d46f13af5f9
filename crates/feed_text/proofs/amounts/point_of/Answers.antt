use Rattle.std.proofs.Common.{◌≡◌, ℕ, true, false, rules, tests}
use Rattle.std.specs.Prelude.{◌==◌}
use Rattle.std.proofs.lemmas.Iterator.{YieldsList-from_slice, IsFirst-from_position}
use Rattle.feed_text.proofs.RangeLaws.{byte_found}
use Rattle.feed_text.proofs.amounts.point_of.Goals as goal

pub returns-clause-value : goal.returns-clause-value
returns-clause-value c =
    byte_found (λ (b : ℕ). b == 46) c.args.text.now c.position.result
    (IsFirst-from_position _ _ c.position.result (λ (b : ℕ). true ≡ (b == 46)) (λ (b : ℕ). false ≡ (b == 46)) c.position.ensures.ran (YieldsList-from_slice _ c.iter.ensures.rest) (λ x q k. search (rules, tests)) (λ x q k. search (rules, tests)))
