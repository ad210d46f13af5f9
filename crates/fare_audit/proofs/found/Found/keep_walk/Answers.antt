use Rattle.std.proofs.Common.{◌⊎◌, inl, inr, ⊎_elim, Contains, ap, sym, arith, ◌∙◌}
use Rattle.ride_cache.proofs.PlaceLaws.{contains_set}
use Rattle.fare_audit.specs.declared.found.Walk.{Walk}
use Rattle.fare_audit.specs.Found.{IsWalk}
use Rattle.fare_audit.proofs.found.Found.keep_walk.Goals as goal

pub returns-then-place-len-clause-walks : goal.returns-then-place-len-clause-walks
returns-then-place-len-clause-walks c = λ walk at.
    let old = c.args.self.now.walks in
    ⊎_elim
    (λ (before : Contains old.items walk). let r : Contains old.items walk ⊎ IsWalk walk c.args.network c.args.ends.now = inl before in r)
    (λ here. let r : Contains old.items walk ⊎ IsWalk walk c.args.network c.args.ends.now = inr (ap (λ (w : Walk). w.network) (sym here), ap (λ (w : Walk). w.ends.items) (sym here) ∙ c.in_ok-ends.ensures.items) in r)
    (contains_set old.items c.walk_place-place.result _ walk (omega (arith, c.if-place-len.true, old.ok.0)) at)

pub returns-else-place-len-clause-walks : goal.returns-else-place-len-clause-walks
returns-else-place-len-clause-walks c = λ walk at. inl at
