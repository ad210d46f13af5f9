use Rattle.std.proofs.Common.{refl, sym, ◌∙◌, ap, subst, ◌+◌, List, length, arith}
use Rattle.std.specs.Prelude.{Option, Some, None, slice_get}
use Rattle.std.proofs.lemmas.Option.{slice_get_read, slice_get-get_or}
use Rattle.feed_rows.specs.declared.fares.ChangeChoice.{ChangeChoice}
use Rattle.feed_rows.specs.declared.fares.LegChoice.{LegChoice}
use Rattle.fare_price.specs.Walks.{IsPlaceBefore, IsPaidUpTo}
use Rattle.fare_price.proofs.WalkLaws.{misfit, fit, moved, walk_start, walk_next, walk_none, walk_end, small_of}
use Rattle.fare_price.proofs.checks.verify.Goals as goal

pub returns-then-not-fits : goal.returns-then-not-fits
returns-then-not-fits c =
    misfit c.args.fares.now c.args.buyer c.args.legs.now c.args.choice.now c.items-picks.result.now c.items-places.result.now
    c.items-picks.ensures.value c.items-places.ensures.value c.if-not-fits.ensures

pub loop-number-init : goal.loop-number-init
loop-number-init c =
    let both = fit c.args.legs.now c.args.choice.now c.items-picks.result.now c.items-places.result.now c.items-picks.ensures.value
    c.items-places.ensures.value c.if-not-fits.ensures in
    walk_start c.args.legs.now c.args.choice.now both.0 both.1 c.args.fares.now c.args.buyer

pub after-walked-requires-clause-small : goal.after-walked-requires-clause-small
after-walked-requires-clause-small c =
    small_of c.args.fares.now c.args.buyer c.loop-number.walked.state c.loop-number.walked.held.0 c.index-legs-number.result _ c.in-Some.step
    c.feed-feed.ensures.sound c.loop-number.invariant.low
    (moved c.args.fares.now _ c.args.buyer c.loop-number.walked.state _ c.loop-number.walked.held.0 c.index-legs-number.result _ _ (Some c.in-Some.step)
    c.in-Some.ensures c.fares.view_is c.as_ref-state.ensures.value refl)

pub loop-number-preserved : goal.loop-number-preserved
loop-number-preserved c =
    let fares = c.args.fares.now in
    let legs = c.args.legs.now in
    let choice = c.args.choice.now in
    let number = c.loop-number.number in
    let both = fit legs choice c.items-picks.result.now c.items-places.result.now c.items-picks.ensures.value
    c.items-places.ensures.value c.if-not-fits.ensures in
    let many = ap length c.items-picks.ensures.value ∙ both.0 in
    subst (IsPaidUpTo fares c.args.buyer legs choice (number + 1)) (sym c.after-walked.ensures)
    (walk_next legs choice both.0 both.1 fares c.args.buyer number c.loop-number.walked c.index-legs-number.result _ c.place_before.result
    c.in-Some.step c.feed-feed.ensures.sound c.loop-number.invariant
    (slice_get_read legs (length legs) number c.index-legs-number.result refl (omega arith) c.index-legs-number.is)
    (ap (λ (ps : List LegChoice). slice_get ps number) (sym c.items-picks.ensures.value)
    ∙ slice_get-get_or c.items-picks.result.now number _ (omega (arith, many)))
    (subst (λ (ps : List (Option ChangeChoice)). IsPlaceBefore ps number c.place_before.result) c.items-places.ensures.value c.place_before.ensures)
    (moved fares _ c.args.buyer c.loop-number.walked.state _ c.loop-number.walked.held.0 c.index-legs-number.result _ _ (Some c.in-Some.step)
    c.in-Some.ensures c.fares.view_is c.as_ref-state.ensures.value c.bare-taken.ensures))

pub returns-in-None : goal.returns-in-None
returns-in-None c =
    let fares = c.args.fares.now in
    let legs = c.args.legs.now in
    let choice = c.args.choice.now in
    let number = c.loop-number.number in
    let both = fit legs choice c.items-picks.result.now c.items-places.result.now c.items-picks.ensures.value
    c.items-places.ensures.value c.if-not-fits.ensures in
    let many = ap length c.items-picks.ensures.value ∙ both.0 in
    walk_none legs choice both.0 both.1 fares c.args.buyer number c.loop-number.walked c.index-legs-number.result _ c.place_before.result
    c.loop-number.invariant
    (slice_get_read legs (length legs) number c.index-legs-number.result refl (omega arith) c.index-legs-number.is)
    (ap (λ (ps : List LegChoice). slice_get ps number) (sym c.items-picks.ensures.value)
    ∙ slice_get-get_or c.items-picks.result.now number _ (omega (arith, many)))
    (subst (λ (ps : List (Option ChangeChoice)). IsPlaceBefore ps number c.place_before.result) c.items-places.ensures.value c.place_before.ensures)
    (moved fares _ c.args.buyer c.loop-number.walked.state _ c.loop-number.walked.held.0 c.index-legs-number.result _ _ None
    c.in-None.ensures c.fares.view_is c.as_ref-state.ensures.value c.bare-taken.ensures)

pub returns : goal.returns
returns c =
    let legs = c.args.legs.now in
    let choice = c.args.choice.now in
    let both = fit legs choice c.items-picks.result.now c.items-places.result.now c.items-picks.ensures.value
    c.items-places.ensures.value c.if-not-fits.ensures in
    ap Some c.total.ensures
    ∙ walk_end legs choice both.0 both.1 c.args.fares.now c.args.buyer c.loop-number.number c.loop-number.walked (omega arith)
    c.loop-number.invariant
