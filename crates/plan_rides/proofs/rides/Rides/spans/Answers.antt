use Rattle.std.proofs.Common.{◌≡◌, ◌≤◌, ap, subst, sym, arith}
use Rattle.std.proofs.lemmas.Result.{IfOk-weaker}
use Rattle.feed_rows.specs.FeedRows.{FeedRows}
use Rattle.feed_rows.specs.declared.journeys.Query.{Query}
use Rattle.plan_rides.specs.Spans.{AreSpans}
use Rattle.plan_rides.proofs.rides.Rides.spans.Goals as goal

pub of-requires : goal.of-requires
of-requires c =
    let rides = c.runs-runs.ensures.within.rides in
    let same = ap (λ (q : Query). q.rides) c.query-query.ensures.is in
    let few : c.query-query.result.now.rides ≤ c.runs-runs.result.now.scope.rides = omega (arith, rides, same) in
    few

pub returns : goal.returns
returns c =
    let query = c.args.self.now.query in
    let asked = c.query-query.result.now in
    let same = ap (λ (q : Query). q.window) c.query-query.ensures.is in
    let few : query.window ≤ asked.window = omega (arith, same) in
    let goes : query.to ≡ asked.to = sym (ap (λ (q : Query). q.to) c.query-query.ensures.is) in
    IfOk-weaker c.of.result _ _
    (λ spans are.
    subst (λ (f : FeedRows). AreSpans f query spans) c.runs-runs.ensures.feed
    (are query (record { inside = c.runs-runs.ensures.within; few = few }) goes))
    c.of.ensures
