use Rattle.std.proofs.Common.{◌≡◌, ◌+◌, subst, arith}
use Rattle.std.specs.Prelude.{OnOk}
use Rattle.std.proofs.lemmas.Result.{on_ok_weaker}
use Rattle.feed_rows.specs.JourneyStands.{Stand}
use Rattle.plan_rides.specs.Cutoffs.{cutoff_of}
use Rattle.plan_rides.specs.Reached.{AddsReached, IsAny}
use Rattle.round_terms.specs.Labels.{facts_of}
use Rattle.round_search.proofs.ScanLaws.{marks_of}
use Rattle.round_terms.specs.Tasks.{HasLaws, task_of}
use Rattle.round_search.proofs.search.Search.reach.Goals as goal

pub cutoffs_by-cutoffs-requires : goal.cutoffs_by-cutoffs-requires
cutoffs_by-cutoffs-requires g c = c.requires.until.within

pub returns : goal.returns
returns g c =
    let task = task_of g.T.Fare.LabelOrder.at_most g.T.Tariff.terms c.args.self.now in
    let laws : HasLaws task = c.limit-limit.ensures.laws in
    let round = c.args.round.now in
    let source = c.args.source.now in
    let old = c.args.reached.now.items in
    let new = c.reach.new.reached.items in
    let more = c.more_behind.ensures in
    let counts = c.requires.counts in
    let cutoffs = c.cutoffs_by-cutoffs.ensures in
    let left : source.label.now.rides + 1 + c.more_behind.result ≡ task.query.rides = omega (arith, more, counts) in
    let fair = cutoffs.fair round.finals.now (facts_of source.label.now) c.requires.source.fit.within c.requires.until left in
    on_ok_weaker c.reach.result (marks_of task laws round c.requires.round source _ _ old new fair cutoffs.lasts)
    (subst (λ (stand : Stand). OnOk c.reach.result (AddsReached round.positions.now (cutoff_of c.cutoffs_by-cutoffs.result.lasts) stand source.number IsAny old new))
    c.standing.ensures c.reach.ensures)
