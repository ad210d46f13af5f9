-- One level more, and at the end what all levels tell.
use Rattle.std.proofs.Common.{◌≡◌, ◌∙◌, ap, subst, ℕ, List, [], ◌∷◌, ◌++◌, get_or, arith}
use Rattle.fare_bounds.specs.declared.level.Level.{Level}
use Rattle.fare_bounds.proofs.LevelLaws.{never_amount}
use Rattle.fare_bounds.proofs.BoundLaws.{AreLevels, level_rides, first_levels, bounds_are, levels_more}
use Rattle.fare_bounds.proofs.bounds.FareBounds.of.Goals as goal

pub filled-requires : goal.filled-requires
filled-requires c = never_amount 0

pub index-before-requires : goal.index-before-requires
index-before-requires c =
    omega (arith, c.from-in-loop-more.ensures, c.loop-more.invariant.long, c.loop-more.levels.ok.0)

pub next-requires-clause-rides : goal.next-requires-clause-rides
next-requires-clause-rides c =
    let rides =
    level_rides c.args.feed.now c.in_ok-amounts.amounts c.loop-more.levels.items c.loop-more.lates.items
    c.loop-more.more _ c.index-before.result.now c.loop-more.invariant c.from-in-loop-more.ensures
    c.index-before.ensures in
    omega (arith, rides, c.loop-more-test.true, c.ranges.rides.fits)

pub next-requires-clause-places : goal.next-requires-clause-places
next-requires-clause-places c = c.in_ok-amounts.ensures.len

pub loop-more-init : goal.loop-more-init
loop-more-init c =
    first_levels c.args.feed.now c.in_ok-amounts.amounts c.in_ok-filled.field-0 c.in_ok-filled-2.field-0 _ _
    c.in_ok-filled.ensures.rides
    (c.in_ok-push.ensures.items ∙ ap (λ (ls : List Level). ls ++ c.in_ok-filled.field-0 ∷ [])
    c.in_ok-levels.ensures.items)
    (c.in_ok-push-2.ensures.items ∙ ap (λ (ls : List Level). ls ++ c.in_ok-filled-2.field-0 ∷ [])
    c.in_ok-lates.ensures.items)

pub loop-more-preserved : goal.loop-more-preserved
loop-more-preserved c =
    let levels = c.loop-more.levels.items in
    let level = c.index-before.result.now in
    levels_more c.args.feed.now c.in_ok-amounts.amounts levels c.loop-more.lates.items _ _ c.loop-more.more level
    c.in_ok-next.next c.in_ok-late.late c.loop-more.invariant
    (subst (λ (n : ℕ). level ≡ get_or levels n level) c.from-in-loop-more.ensures c.index-before.ensures)
    c.in_ok-next.ensures c.in_ok-late.ensures c.in_ok-push-4.ensures.items c.in_ok-push-3.ensures.items

pub returns : goal.returns
returns c =
    let levels = c.loop-more.levels.items in
    let lates = c.loop-more.lates.items in
    bounds_are c.args.feed.now c.args.buyer c.args.lasts.now c.in_ok-amounts.amounts c.in_ok-limits.limits.items
    levels lates c.args.rides c.in_ok-amounts.ensures.least c.in_ok-amounts.ensures.ends c.in_ok-limits.ensures
    (subst (λ (n : ℕ). AreLevels c.args.feed.now c.in_ok-amounts.amounts levels lates n)
    (omega (arith, c.loop-more-test.false, c.loop-more.auto.more-end)) c.loop-more.invariant)
