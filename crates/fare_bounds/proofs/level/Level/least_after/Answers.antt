-- No sum of amounts is too great for 128 bits.
use Rattle.std.proofs.Common.{◌≡◌, ◌∙◌, ap, subst, rules, w64, SFits}
use Rattle.std.specs.Prelude.{ℤ}
use Rattle.std.proofs.lemmas.Int.{to_z-of_z}
use Rattle.fare_bounds.specs.Amounts.{at_place, place_of}
use Rattle.fare_bounds.specs.Levels.{with_at, without_at}
use Rattle.fare_bounds.proofs.AmountLaws.{wide_sums}
use Rattle.fare_bounds.proofs.level.Level.least_after.Goals as goal
use mir.Syntax.{w128}

pub returns : goal.returns
returns c =
    let fits_paid : SFits w64 c.args.paid.0 = search rules in
    let fits_held : SFits w64 c.args.held.0 = search rules in
    let fits_with : SFits w64 c.at_place.result = record { sfits = c.at_place.type_inv } in
    let fits_without : SFits w64 c.at_place-2.result = record { sfits = c.at_place-2.type_inv } in
    let with : c.at_place.result ≡ with_at c.args.self.now (place_of c.args.group) =
    c.at_place.ensures ∙ ap (λ xs. at_place xs c.place_of-place.result) c.deref.ensures.value
    ∙ ap (with_at c.args.self.now) c.place_of-place.ensures in
    let without : c.at_place-2.result ≡ without_at c.args.self.now (place_of c.args.group) =
    c.at_place-2.ensures ∙ ap (λ xs. at_place xs c.place_of-place.result) c.deref-2.ensures.value
    ∙ ap (without_at c.args.self.now) c.place_of-place.ensures in
    to_z-of_z w128 _ (record { sfits = c.min.type_inv })
    ∙ wide_sums c.from-paid.result c.from.result c.from-2.result c.from-3.result c.args.paid.0 c.args.held.0
    (with_at c.args.self.now (place_of c.args.group)) (without_at c.args.self.now (place_of c.args.group)) c.min.result
    (c.from-paid.ensures ∙ to_z-of_z w64 _ fits_paid) (c.from.ensures ∙ to_z-of_z w64 _ fits_held)
    (c.from-2.ensures ∙ to_z-of_z w64 _ fits_with ∙ with)
    (c.from-3.ensures ∙ to_z-of_z w64 _ fits_without ∙ without) fits_paid
    fits_held (subst (λ (z : ℤ). SFits w64 z) with fits_with)
    (subst (λ (z : ℤ). SFits w64 z) without fits_without) c.min.ensures.value
