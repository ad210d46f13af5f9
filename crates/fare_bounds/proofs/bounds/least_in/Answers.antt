-- The level with this number, where there is one.
use Rattle.std.proofs.Common.{◌≡◌, ◌∙◌, ap, sym, arith}
use Rattle.std.specs.Prelude.{slice_get, Some, None}
use Rattle.std.specs.Option.{option_map_or}
use Rattle.std.proofs.lemmas.Int.{to_z-of_z}
use Rattle.std.proofs.lemmas.Option.{gets}
use Rattle.fare_bounds.specs.FareBounds.{least_by, unknown}
use Rattle.fare_bounds.proofs.bounds.least_in.Goals as goal
use mir.Syntax.{w128}

pub returns-in-Some : goal.returns-in-Some
returns-in-Some c =
    let at : slice_get c.args.levels.now c.args.more ≡ Some c.in-Some.level.now =
    grind (arith, gets, c.get.ensures.lookup) in
    to_z-of_z w128 _ (record { sfits = c.least_by.type_inv }) ∙ c.least_by.ensures
    ∙ ap (λ o. option_map_or (λ level. least_by level c.args.state.now c.args.paid.0 c.args.held.0) o unknown) (sym at)

pub returns-in-None : goal.returns-in-None
returns-in-None c =
    let at : slice_get c.args.levels.now c.args.more ≡ None = grind (arith, gets, c.get.ensures.lookup) in
    ap (λ o. option_map_or (λ level. least_by level c.args.state.now c.args.paid.0 c.args.held.0) o unknown) (sym at)
