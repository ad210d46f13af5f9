use Rattle.std.proofs.Common.{Contains, ap, sym, ◌∙◌, ⊎_elim}
use Rattle.std.proofs.lemmas.List.Elements.{Contains-push_cases}
use Rattle.fare_audit.specs.declared.found.Walk.{Walk}
use Rattle.fare_audit.proofs.found.no_walks.Goals as goal

pub loop-preserved : goal.loop-preserved
loop-preserved c = λ walk at.
    ⊎_elim
    (λ (before : Contains c.loop.walks.items walk). c.loop.invariant walk before)
    (λ here. ap (λ (w : Walk). w.ends.items) (sym here) ∙ c.new.ensures.items)
    (Contains-push_cases c.loop.walks.items _ walk (rw c.in_ok-push.ensures.items at at))
