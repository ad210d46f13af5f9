use Rattle.std.proofs.Common.{◌∙◌, ap, subst}
use Rattle.plan_rides.specs.Cutoffs.{cutoff_of}
use Rattle.plan_rides.specs.Reached.{AddsFound, IsFromReached, Kept}
use Rattle.plan_rides.proofs.FoundLaws.{holds_found}
use Rattle.plan_rides.proofs.positions.Positions.keep.Goals as goal

pub returns-then-serve-clause-holds : goal.returns-then-serve-clause-holds
returns-then-serve-clause-holds c = c.serve.ensures c.if-serve.true _ _ c.requires.kept

pub returns-clause-holds : goal.returns-clause-holds
returns-clause-holds c =
    let me = c.args.self.now in
    let latest = cutoff_of c.args.latest.now in
    let reached = c.args.reached.now in
    holds_found me latest reached c.add_rides.new.rides.items
    (subst (λ old. AddsFound me.feed me.query latest reached.stop.0 reached.earliest.0 (IsFromReached me reached) old c.add_rides.new.rides.items)
    (ap (λ (k : Kept). k.rides) (c.kept.view_is ∙ c.clear.ensures)) c.in_ok-add_rides.ensures)

pub returns-clause-kept : goal.returns-clause-kept
returns-clause-kept c = returns-clause-holds c
