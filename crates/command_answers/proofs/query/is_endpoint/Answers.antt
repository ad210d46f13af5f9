use Rattle.std.proofs.Common.{◌≡◌, ◌∙◌, ap, refl, sym, Some, false, arith}
use Rattle.std.specs.Prelude.{slice_get, ◌==◌}
use Rattle.std.proofs.lemmas.Bool.Decides.{nat_tests}
use Rattle.std.proofs.lemmas.Option.{slice_get-get_or, slice_get_past}
use Rattle.command_answers.proofs.query.is_endpoint.Goals as goal

pub returns-then-row-eq-PLATFORM : goal.returns-then-row-eq-PLATFORM
returns-then-row-eq-PLATFORM c =
    let found : slice_get c.items.result.now c.args.stop.0 ≡ Some c.in-Some.row.now =
    slice_get-get_or c.items.result.now c.args.stop.0 c.in-Some.row.now c.in-Some.ensures.lookup.3.0 ∙ ap Some (sym c.in-Some.ensures.lookup.1) in
    rw (← c.feed.view_is, rw c.items.ensures.value at found, c.if-row-eq-PLATFORM.true) refl

pub returns-else-row-eq-PLATFORM : goal.returns-else-row-eq-PLATFORM
returns-else-row-eq-PLATFORM c =
    let found : slice_get c.items.result.now c.args.stop.0 ≡ Some c.in-Some.row.now =
    slice_get-get_or c.items.result.now c.args.stop.0 c.in-Some.row.now c.in-Some.ensures.lookup.3.0 ∙ ap Some (sym c.in-Some.ensures.lookup.1) in
    let other : (c.in-Some.row.now.kind == 0) ≡ false = grind (arith, nat_tests, c.if-row-eq-PLATFORM.false) in
    rw (← c.feed.view_is, rw c.items.ensures.value at found, other) refl

pub returns-in-None : goal.returns-in-None
returns-in-None c =
    let none = slice_get_past c.items.result.now c.args.stop.0 c.in-None.ensures.lookup.3 in
    rw (← c.feed.view_is, rw c.items.ensures.value at none) refl
