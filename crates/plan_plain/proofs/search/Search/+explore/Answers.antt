use Rattle.std.proofs.Common.{refl, sym, ◌∙◌, ap, subst, arith, length, ◌<◌, ◌-◌}
use Rattle.std.proofs.lemmas.List.{length_push}
use Rattle.feed_rows.specs.Legs.{leg_facts}
use Rattle.feed_timetable.specs.Standings.{stand_of}
use Rattle.plan_rides.specs.InTime.{IsRight}
use Rattle.plan_plain.specs.Paths.{Taken, with_ride}
use Rattle.plan_plain.specs.Searches.{IsSearched}
use Rattle.plan_rides.proofs.CaughtLaws.{caught_within}
use Rattle.plan_plain.proofs.SearchLaws.{may_ride, gains_then, gains_explored, gains_all, gains_dead, gains_end, searched_on}
use Rattle.plan_plain.proofs.search.Search.+explore.Goals as goal
use Rattle.plan_plain.proofs.search.Search.+explore.Goals.{then-goes_on+in_ok-take+in_ok-explore, else-goes_on}

pub explore-requires : goal.explore-requires
explore-requires t c =
    let caught = c.index-caught.result.now in
    let feed = c.args.self.now.feed in
    let query = c.args.self.now.query in
    let lt : c.loop-n.n < length c.in_ok-rides.rides.items = omega (arith, c.loop-n-test.true, c.len-n-end.ensures, c.in_ok-rides.rides.ok.0) in
    let right = subst (IsRight feed query (stand_of c.args.standing)) (sym c.index-caught.ensures) (c.in_ok-rides.ensures.right c.loop-n.n caught lt) in
    let pushed = c.in_ok-take.ensures ∙ ap (λ (taken : Taken). with_ride taken caught.ride
    (leg_facts feed caught.facts)) c.loop-n.invariant.path in
    let one = ap (λ (taken : Taken). length taken.rides) pushed in
    let more = length_push c.args.path.now.rides caught.ride in
    let few = c.requires.few in
    let some = c.if-left-eq0.false in
    let within = caught_within feed query (stand_of c.args.standing) caught.ride _ c.in_ok-rides.ensures.sound c.requires.searched.within right.next in (
      omega arith,
      (
        subst (IsSearched feed query c.args.first _) (sym pushed)
            (searched_on feed query c.args.first
            (stand_of c.args.standing) c.args.path.now caught c.requires.searched right within),
        omega (arith, few, one, more, some),
      ),
    )

pub goes_on-goes_on-requires : goal.goes_on-goes_on-requires
goes_on-goes_on-requires t c =
    let caught = c.index-caught.result.now in
    let feed = c.args.self.now.feed in
    let query = c.args.self.now.query in
    let lt : c.loop-n.n < length c.in_ok-rides.rides.items = omega (arith, c.loop-n-test.true, c.len-n-end.ensures, c.in_ok-rides.rides.ok.0) in
    let right = subst (IsRight feed query (stand_of c.args.standing)) (sym c.index-caught.ensures) (c.in_ok-rides.ensures.right c.loop-n.n caught lt) in
    caught_within feed query (stand_of c.args.standing) caught.ride _ c.in_ok-rides.ensures.sound c.requires.searched.within right.next

pub rides_from-requires-clause-may : goal.rides_from-requires-clause-may
rides_from-requires-clause-may t c =
    let some = c.if-left-eq0.false in
    may_ride c.args.self.now.feed c.args.self.now.query c.args.first
    (stand_of c.args.standing) c.args.path.now c.args.left c.requires.searched c.requires.few (omega (arith, some))

pub loop-n-preserved : goal.loop-n-preserved
loop-n-preserved t c =
    let caught = c.index-caught.result.now in
    let feed = c.args.self.now.feed in
    let query = c.args.self.now.query in
    let stand = stand_of c.args.standing in
    let lt : c.loop-n.n < length c.in_ok-rides.rides.items = omega (arith, c.loop-n-test.true, c.len-n-end.ensures, c.in_ok-rides.rides.ok.0) in
    let right = subst (IsRight feed query stand) (sym c.index-caught.ensures)
    (c.in_ok-rides.ensures.right c.loop-n.n caught lt) in
    let within = caught_within feed query stand caught.ride _ c.in_ok-rides.ensures.sound c.requires.searched.within right.next in
    let leg = leg_facts feed caught.facts in
    let was = c.loop-n.invariant in
    elim c.if-goes_on.branch [
      | then-goes_on+in_ok-take+in_ok-explore w ↦
          let pushed = w.in_ok-take.ensures ∙ ap (λ (taken : Taken). with_ride taken caught.ride leg) was.path in
          let then = w.in_ok-explore.ensures in
          rw (w.path-is, w.front-is) (record {
            path = w.pop.ensures c.args.path.now caught.ride leg (then.path ∙ pushed);
            gains = gains_then feed query _ _ _ _ _ was.gains then.gains;
            covered = gains_explored feed query c.args.first c.args.path.now.rides w.take.new.path leg c.args.path.now c.in_ok-rides.rides.items c.loop-n.n (c.args.left - 1) caught _ _ lt c.index-caught.ensures pushed refl then.gains was.covered;
          })
      | else-goes_on w ↦
          let none = c.goes_on-goes_on.ensures w.if-goes_on.false in
          let searched = searched_on feed query c.args.first stand c.args.path.now caught c.requires.searched right within in
          rw (w.path-is, w.front-is) (record {
            path = was.path;
            gains = was.gains;
            covered = gains_explored feed query c.args.first c.args.path.now.rides
                (with_ride c.args.path.now caught.ride leg) leg c.args.path.now c.in_ok-rides.rides.items c.loop-n.n
                (c.args.left - 1) caught _ _ lt c.index-caught.ensures refl refl
                (gains_dead feed query c.args.first _ _ _ _ searched none.0 none.1) was.covered;
          })
    ]

pub returns-clause-gains : goal.returns-clause-gains
returns-clause-gains t c =
    let some = c.if-left-eq0.false in
    gains_all _ _ _ _ _ c.in_ok-rides.rides.items c.loop-n.n _ _ _ c.in_ok-rides.ensures.all c.in_ok-rides.ensures.right
    (omega (arith, c.loop-n-test.false, c.len-n-end.ensures, c.in_ok-rides.rides.ok.0)) (omega (arith, some)) c.loop-n.invariant.gains c.loop-n.invariant.covered

pub returns-then-left-eq0-clause-gains : goal.returns-then-left-eq0-clause-gains
returns-then-left-eq0-clause-gains t c = gains_end _ _ _ _ _ _ _ _ c.if-left-eq0.true c.in_ok-offer.ensures

pub loop-n-init : goal.loop-n-init
loop-n-init t c = record {
  path = refl;
  gains = c.in_ok-offer.ensures;
  covered = λ k d entry below goes. absurd (omega (arith, below));
}
