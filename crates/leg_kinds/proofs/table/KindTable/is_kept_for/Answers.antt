use Rattle.std.proofs.Common.{subst, sym, ◌∙◌}
use Rattle.leg_kinds.specs.Kinds.{IsOfKind}
use Rattle.leg_kinds.proofs.KindLaws.{found}
use Rattle.leg_kinds.proofs.table.KindTable.is_kept_for.Goals as goal

pub returns : goal.returns
returns g c = λ same.
    subst (λ lists. IsOfKind lists c.args.leg.now c.args.number) c.self.view_is
    (found c.self.inside.table.kept.items c.args.leg.now c.args.number (sym c.is_for.ensures ∙ same))
