use Rattle.std.proofs.Common.{◌≡◌, ◌∙◌, refl, subst, sym, get_or, pos}
use Rattle.std.specs.Prelude.{None, Some}
use Rattle.feed_rows.specs.JourneyStands.{way_to}
use Rattle.feed_timetable.specs.Standings.{stand_of}
use Rattle.plan_rides.specs.declared.servings.TimedServing.{TimedServing}
use Rattle.plan_rides.specs.Boarding.{AreMarks}
use Rattle.plan_rides.specs.Cutoffs.{cutoff_of}
use Rattle.plan_rides.specs.Reached.{Positioned}
use Rattle.plan_rides.specs.Scopes.{IsInScope}
use Rattle.plan_rides.specs.Served.{AreTimed, IsTimed}
use Rattle.plan_rides.proofs.MarkLaws.{may_board}
use Rattle.plan_rides.proofs.ReachLaws.{reach_closed, reach_late, reach_no_way, reach_open, reach_stop, reach_untimed}
use Rattle.plan_rides.proofs.positions.Positions.reach_stop.Goals as goal
use Rattle.plan_rides.proofs.positions.Positions.reach_stop.Goals.{then-is_open+in_ok-push, else-is_open}

pub returns-in_default : goal.returns-in_default
returns-in_default c =
    reach_no_way _ _ _ _ _ _
    (subst (λ (m : Positioned). way_to m.feed m.query (stand_of c.args.who.now.standing) c.args.stop ≡ None) c.self.view_is
    (sym c.in_default.ensures))

pub returns-then-not-is_early : goal.returns-then-not-is_early
returns-then-not-is_early c =
    let me = c.args.self.now in
    let stand = stand_of c.args.who.now.standing in
    let way = subst (λ (m : Positioned). way_to m.feed m.query stand c.args.stop ≡ Some c.in-Some.seconds) c.self.view_is
    (sym c.in-Some.ensures) in
    reach_late me (cutoff_of c.args.lasts.now) stand c.args.who.now.number c.args.stop c.in-Some.seconds _ _ c.requires.within
    way c.plus-earliest.ensures (sym c.is_early.ensures ∙ c.if-not-is_early.true)

pub loop-k-init : goal.loop-k-init
loop-k-init c = reach_untimed _ _ _ _ _ _

pub loop-k-preserved : goal.loop-k-preserved
loop-k-preserved c =
    let me = c.args.self.now in
    let stand = stand_of c.args.who.now.standing in
    let stop = c.args.stop in
    let seconds = c.in-Some.seconds in
    let sought = c.self.inside.sought.now in
    let served = c.get-served.result.now in
    let k = c.loop-k.k in
    let x : TimedServing =
    record { serving = record { pattern = 0; position = 0 }; first = record { 0 = pos 0 }; last = record { 0 = pos 0 } }
    in
    let earliest = c.plus-earliest.result.0 in
    let inside = subst (λ (m : Positioned). IsInScope sought.scope m.query) c.self.view_is c.self.invariant.3 in
    let way = subst (λ (m : Positioned). way_to m.feed m.query stand stop ≡ Some seconds) c.self.view_is (sym c.in-Some.ensures) in
    let at = c.plus-earliest.ensures in
    let all = subst (λ (m : Positioned). AreTimed m.feed sought m.patterns stop.0 served) c.self.view_is
    (subst (AreTimed c.self.inside.timetable.now sought c.self.inside.patterns.now.patterns stop.0) (sym c.get-served.ensures)
    (c.self.invariant.2.each stop.0)) in
    let timed : IsTimed me.feed sought.scope.span me.patterns stop.0 (get_or served k x) = all.right k x c.loop-k-test.true in
    elim c.if-is_open.branch [
      | then-is_open+in_ok-push w ↦
          rw w.reached-is
          (reach_open me (cutoff_of c.args.lasts.now) stand c.args.who.now.number served k x _ _ _ _ c.loop-k-test.true refl refl
          (record { serves = timed.serves; way = seconds; way_is = way; at = at }) w.in_ok-push.ensures.items c.loop-k.invariant)
      | else-is_open w ↦
          rw w.reached-is
          (reach_closed me (cutoff_of c.args.lasts.now) stand c.args.who.now.number sought.scope.span stop seconds earliest served k x _ _ c.loop-k-test.true
          inside.since c.requires.within way at timed (sym c.is_open.ensures ∙ w.if-is_open.false) c.loop-k.invariant)
    ]

pub returns : goal.returns
returns c =
    let me = c.args.self.now in
    let stand = stand_of c.args.who.now.standing in
    let stop = c.args.stop in
    let sought = c.self.inside.sought.now in
    let served = c.get-served.result.now in
    let inside = subst (λ (m : Positioned). IsInScope sought.scope m.query) c.self.view_is c.self.invariant.3 in
    let timed = subst (λ (m : Positioned). AreTimed m.feed sought m.patterns stop.0 served) c.self.view_is
    (subst (AreTimed c.self.inside.timetable.now sought c.self.inside.patterns.now.patterns stop.0) (sym c.get-served.ensures)
    (c.self.invariant.2.each stop.0)) in
    let marks = subst (λ (m : Positioned). AreMarks m.feed sought) c.self.view_is c.self.invariant.4 in
    reach_stop me (cutoff_of c.args.lasts.now) stand c.args.who.now.number sought stop.0 c.loop-k.k served _ _ inside c.requires.within
    (may_board me.feed me.query sought stand inside.from inside.rides marks c.requires.may) timed c.loop-k-test.false c.loop-k.invariant
