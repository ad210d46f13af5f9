use Rattle.std.proofs.Common.{◌≡◌, subst}
use Rattle.plan_patterns.specs.Grouping.{ArePatterns, PatternsOf}
use Rattle.plan_rides.specs.Departures.{AreDepartures, HoldsRuns}
use Rattle.plan_rides.proofs.DepartureLaws.{are_departures, holds_runs, of_both}
use Rattle.plan_rides.proofs.departures.patterns_of.Goals as goal

pub returns-clause-held : goal.returns-clause-held
returns-clause-held c =
    let feed = c.args.timetable.now in
    let trips = c.deref.result.now in
    of_both c.build.result (λ (built : PatternsOf). built.feed ≡ feed) (λ (built : PatternsOf). ArePatterns feed c.span.result.now trips built.patterns) (HoldsRuns feed c.args.sought.now)
    (λ built of are. holds_runs feed c.args.sought.now trips built (rw c.deref.ensures.value c.in_ok-trips.ensures) of
    (subst (λ q. ArePatterns feed q trips built.patterns) c.span.ensures are))
    c.build.ensures.feed c.build.ensures.patterns

pub returns-clause-served : goal.returns-clause-served
returns-clause-served c =
    let feed = c.args.timetable.now in
    let trips = c.deref.result.now in
    of_both c.build.result (λ (built : PatternsOf). built.feed ≡ feed) (λ (built : PatternsOf). ArePatterns feed c.span.result.now trips built.patterns) (AreDepartures feed c.args.sought.now)
    (λ built of are. are_departures feed c.args.sought.now trips built (rw c.deref.ensures.value c.in_ok-trips.ensures) of
    (subst (λ q. ArePatterns feed q trips built.patterns) c.span.ensures are))
    c.build.ensures.feed c.build.ensures.patterns
