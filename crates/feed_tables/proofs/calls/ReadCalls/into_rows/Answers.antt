use Rattle.std.proofs.Common.{◌≡◌, subst, [], Any, ⊎_elim, rules}
use Rattle.feed_tables.specs.ReadCalls.{IsStray}
use Rattle.feed_tables.proofs.CallLaws.{stray_behind}
use Rattle.feed_tables.proofs.calls.ReadCalls.into_rows.Goals as goal

pub returns-then-not-is_empty-clause-stray : goal.returns-then-not-is_empty-clause-stray
returns-then-not-is_empty-clause-stray c =
    subst (Any IsStray) c.self.view_is
    (⊎_elim (λ (none : c.self.inside.rest.items ≡ []). absurd (search rules)) (λ some. stray_behind _ _ some) c.self.invariant)
