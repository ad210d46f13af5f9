use Rattle.std.proofs.Common.{◌∙◌, sym, ap, arith}
use Rattle.answer_page.specs.Names.{NamePairs, name_in}
use Rattle.answer_page.proofs.NameLaws.{name_hit, name_none}
use Rattle.answer_page.proofs.names.NameList.get.Goals as goal

pub returns-then-eq : goal.returns-then-eq
returns-then-eq c =
    let end = c.count-place-end.ensures in
    let below = c.loop-place-test.true in
    c.get-then-eq.ensures ∙ sym (name_hit (record { ids = c.self.inside.ids; names = c.self.inside.names }) c.args.id.now c.loop-place.place (omega (arith, end, below))
    (rw c.get.ensures at (sym c.if-eq.ensures)) (rw (← c.self.view_is) at c.loop-place.invariant))
    ∙ ap (λ (pairs : NamePairs). name_in pairs c.args.id.now) c.self.view_is

pub returns : goal.returns
returns c =
    let end = c.count-place-end.ensures in
    let past = c.loop-place-test.false in
    let earlier = rw (← c.self.view_is) at c.loop-place.invariant in
    sym (name_none (record { ids = c.self.inside.ids; names = c.self.inside.names }) c.args.id.now (λ k inside. earlier k (omega (arith, end, past, inside))))
    ∙ ap (λ (pairs : NamePairs). name_in pairs c.args.id.now) c.self.view_is
