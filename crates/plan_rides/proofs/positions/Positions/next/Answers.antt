use Rattle.std.proofs.Common.{◌<◌, ◌≤◌, ◌∙◌, ap, arith, length, refl, subst, sym, []}
use Rattle.std.specs.Prelude.{Some}
use Rattle.std.proofs.lemmas.List.Elements.{Contains-get_or}
use Rattle.std.proofs.lemmas.Option.{slice_get-get_or}
use Rattle.feed_timetable.specs.Standings.{stand_of}
use Rattle.plan_rides.specs.Cutoffs.{cutoff_by}
use Rattle.plan_rides.specs.Reached.{AddsReached, IsAny, IsReachedFrom}
use Rattle.plan_rides.proofs.CutoffLaws.{any_last}
use Rattle.plan_rides.proofs.FoundLaws.{HasFoundBelow, all_caught, all_right, below_more, below_none}
use Rattle.plan_rides.proofs.ReachLaws.{reached_only}
use Rattle.plan_rides.proofs.positions.Positions.next.Goals as goal

pub loop-k-init : goal.loop-k-init
loop-k-init c =
    subst (HasFoundBelow c.args.self.now (stand_of c.args.standing) c.reach.new.reached.items 0) (sym c.new-rides.ensures.items)
    (below_none _ _ _)

pub add_rides-requires-clause-lasts : goal.add_rides-requires-clause-lasts
add_rides-requires-clause-lasts c =
    let any = cutoff_by [] c.deadline.result.0 in
    any_last c.args.self.now.feed c.args.self.now.query any any refl

pub add_rides-requires-clause-serves : goal.add_rides-requires-clause-serves
add_rides-requires-clause-serves c =
    let me = c.args.self.now in
    let stand = stand_of c.args.standing in
    let list = c.reach.new.reached.items in
    let any = cutoff_by [] c.deadline.result.0 in
    let reach = subst (λ old. AddsReached me any stand 0 IsAny old list) c.new-reached.ensures.items c.in_ok-reach.ensures in
    let has = Contains-get_or list c.loop-k.k c.index.result.now (omega (arith, c.loop-k-test.true, c.len-k-end.ensures, c.reach.new.reached.ok.0)) in
    let is = subst (IsReachedFrom me stand) (sym c.index.ensures) (reached_only me any stand 0 IsAny list reach _ has).1 in
    is.serves

pub loop-k-preserved : goal.loop-k-preserved
loop-k-preserved c =
    let me = c.args.self.now in
    let stand = stand_of c.args.standing in
    let list = c.reach.new.reached.items in
    let any = cutoff_by [] c.deadline.result.0 in
    let x = c.index.result.now in
    let lt : c.loop-k.k < length list = omega (arith, c.loop-k-test.true, c.len-k-end.ensures, c.reach.new.reached.ok.0) in
    let reach = subst (λ old. AddsReached me any stand 0 IsAny old list) c.new-reached.ensures.items c.in_ok-reach.ensures in
    let is = subst (IsReachedFrom me stand) (sym c.index.ensures) (reached_only me any stand 0 IsAny list reach _ (Contains-get_or list c.loop-k.k x lt)).1 in
    below_more me any stand list c.loop-k.k x _ _ refl c.requires.within (slice_get-get_or list c.loop-k.k x lt ∙ ap Some (sym c.index.ensures)) is
    c.loop-k.invariant c.in_ok-add_rides.ensures

pub returns-clause-all : goal.returns-clause-all
returns-clause-all c =
    let me = c.args.self.now in
    let stand = stand_of c.args.standing in
    let list = c.reach.new.reached.items in
    let any = cutoff_by [] c.deadline.result.0 in
    let reach = subst (λ old. AddsReached me any stand 0 IsAny old list) c.new-reached.ensures.items c.in_ok-reach.ensures in
    let whole : length list ≤ c.loop-k.k = omega (arith, c.loop-k-test.false, c.len-k-end.ensures, c.reach.new.reached.ok.0) in
    all_caught me any stand 0 c.loop-k.k list c.loop-k.rides.items refl reach whole c.loop-k.invariant

pub returns-clause-right : goal.returns-clause-right
returns-clause-right c =
    let me = c.args.self.now in
    let stand = stand_of c.args.standing in
    all_right me stand c.loop-k.k c.reach.new.reached.items c.loop-k.rides.items c.loop-k.invariant
