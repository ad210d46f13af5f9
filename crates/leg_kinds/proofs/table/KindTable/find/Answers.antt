use Rattle.std.proofs.Common.{subst, sym}
use Rattle.std.proofs.lemmas.Option.{IfSome_then}
use Rattle.leg_kinds.specs.Kinds.{IsOfKind}
use Rattle.leg_kinds.proofs.KindLaws.{found}
use Rattle.leg_kinds.proofs.OrderLaws.{known}
use Rattle.leg_kinds.proofs.table.KindTable.find.Goals as goal

pub returns-clause-kept : goal.returns-clause-kept
returns-clause-kept g c =
    IfSome_then c.number_at.result c.number_at.ensures.some
    (λ number same. subst (λ lists. IsOfKind lists c.args.leg.now number) c.self.view_is
    (found c.self.inside.table.kept.items c.args.leg.now number same))

pub returns-clause-known : goal.returns-clause-known
returns-clause-known g c = λ number kind.
    known c.self.inside.table.kept.items c.self.inside.table.order.items c.args.leg.now c.place_of-place.result _
    c.self.invariant c.place_of-place.ensures.place c.number_at.ensures.none number
    (subst (λ lists. IsOfKind lists c.args.leg.now number) (sym c.self.view_is) kind)
