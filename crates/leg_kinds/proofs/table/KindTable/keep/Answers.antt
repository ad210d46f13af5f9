use Rattle.std.proofs.Common.{◌∙◌, ap, ◌++◌, ◌∷◌, [], length}
use Rattle.leg_kinds.specs.Kinds.{kept_for}
use Rattle.leg_kinds.proofs.KindLaws.{kept_more, many_kept}
use Rattle.leg_kinds.proofs.OrderLaws.{order_more}
use Rattle.leg_kinds.proofs.table.KindTable.keep.Goals as goal

pub returns-clause-number : goal.returns-clause-number
returns-clause-number g c =
    c.in_ok-number.ensures.number ∙ many_kept c.self.inside.table.kept.items ∙ ap length c.self.view_is

pub returns-clause-kept : goal.returns-clause-kept
returns-clause-kept g c =
    kept_more c.self.inside.table.kept.items c.keep.new.self.kept.items c.in_ok-kept.kept c.args.leg.now c.args.items.items c.in_ok-number.ensures.kept
    c.in_ok-kept.ensures.leg c.in_ok-kept.ensures.items
    ∙ ap (λ lists. lists ++ kept_for c.args.leg.now c.args.items.items ∷ []) c.self.view_is

pub invariant_of-self-2 : goal.invariant_of-self-2
invariant_of-self-2 g c =
    let made = c.in_ok-number.ensures in
    let place = c.place_of-place.ensures in
    rw (made.kept, made.order, made.number)
    (order_more c.self.inside.table.kept.items c.in_ok-kept.kept c.args.leg.now c.self.inside.table.order.items
    c.place_of-place.result c.self.invariant c.in_ok-kept.ensures.leg place.bound place.place)
