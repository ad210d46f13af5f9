use Rattle.std.proofs.Common.{◌≡◌, ◌+◌, arith}
use Rattle.round_terms.specs.Labels.{facts_of}
use Rattle.round_terms.specs.Tasks.{task_of}
use Rattle.round_search.proofs.search.Search.limits.Goals as goal

pub returns : goal.returns
returns g c =
    let task = task_of g.T.Fare.LabelOrder.at_most g.T.Tariff.terms c.args.self.now in
    let round = c.args.round.now in
    let a = facts_of c.args.label.now in
    let more = c.more_behind-more.ensures in
    let counts = c.requires.counts in
    let left : a.rides + 1 + c.more_behind-more.result ≡ task.query.rides = omega (arith, more, counts) in
    record {
      all = c.cutoffs_by.ensures.fair round.finals.now a c.requires.fit.within c.requires.until.all left;
      late = c.cutoffs_by-2.ensures.late round.finals.now a c.args.until.since.0 c.requires.fit.within c.requires.until.late left;
      after = c.cut_after.ensures;
    }
