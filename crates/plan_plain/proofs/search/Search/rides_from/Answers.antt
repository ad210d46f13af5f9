use Rattle.std.proofs.Common.{sym, subst}
use Rattle.std.specs.Prelude.{All, IfOk}
use Rattle.feed_timetable.specs.Standings.{stand_of}
use Rattle.feed_rows.specs.Journeys.{Asked}
use Rattle.plan_rides.specs.Boarding.{MayRide}
use Rattle.plan_rides.specs.InTime.{HasCaught, IsRight, IsWithinWindow}
use Rattle.plan_plain.proofs.search.Search.rides_from.Goals as goal

pub next-requires-clause-within : goal.next-requires-clause-within
next-requires-clause-within c = subst (λ (a : Asked). IsWithinWindow a.query c.args.standing.at.0) (sym c.self.view_is) c.requires.within

pub next-requires-clause-may : goal.next-requires-clause-may
next-requires-clause-may c =
    subst (λ (a : Asked). MayRide a.feed a.query (stand_of c.args.standing)) (sym c.self.view_is) c.requires.may

pub returns-clause-all : goal.returns-clause-all
returns-clause-all c =
    subst (λ (a : Asked). IfOk c.next.result (λ rides. HasCaught a.feed a.query (stand_of c.args.standing) rides.items)) c.self.view_is c.next.ensures.all

pub returns-clause-right : goal.returns-clause-right
returns-clause-right c =
    subst (λ (a : Asked). IfOk c.next.result (λ rides. All (IsRight a.feed a.query (stand_of c.args.standing)) rides.items)) c.self.view_is c.next.ensures.right
