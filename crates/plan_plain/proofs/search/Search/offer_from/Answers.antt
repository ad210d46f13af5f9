use Rattle.std.proofs.Common.{[], ap, sym, subst}
use Rattle.feed_timetable.specs.Standings.{stand_of}
use Rattle.feed_rows.specs.JourneyStands.{first_stand}
use Rattle.feed_rows.specs.declared.journeys.Query.{Query}
use Rattle.plan_plain.specs.Paths.{Taken}
use Rattle.plan_plain.specs.Searches.{Gains, GoesOn, IsSearched}
use Rattle.plan_plain.proofs.SearchLaws.{gains_start, searched_first}
use Rattle.plan_plain.proofs.search.Search.offer_from.Goals as goal

pub explore-requires-clause-searched : goal.explore-requires-clause-searched
explore-requires-clause-searched c =
    subst (IsSearched c.args.self.now.feed c.args.self.now.query c.args.first (stand_of c.start-standing.result))
    (sym c.requires.path)
    (searched_first _ _ _ _ c.start-standing.ensures.stand c.start-standing.ensures.within c.requires.starts)

pub returns-clause-gains : goal.returns-clause-gains
returns-clause-gains c =
    let feed = c.args.self.now.feed in
    let query = c.args.self.now.query in
    gains_start feed query c.args.first c.args.front.now c.explore.new.front c.start-standing.ensures.sound
    (subst (λ n. Gains feed query (GoesOn feed query c.args.first []
    (first_stand query c.args.first) n) c.args.front.now c.explore.new.front) (ap (λ (q : Query). q.rides) c.query.ensures.is)
    (subst (λ stand. Gains feed query (GoesOn feed query c.args.first [] stand c.query.result.now.rides) c.args.front.now c.explore.new.front) c.start-standing.ensures.stand
    (subst (λ (taken : Taken). Gains feed query (GoesOn feed query c.args.first taken.rides
    (stand_of c.start-standing.result) c.query.result.now.rides) c.args.front.now c.explore.new.front) c.requires.path c.in_ok-explore.ensures.gains)))
