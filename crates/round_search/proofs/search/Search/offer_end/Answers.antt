use Rattle.std.proofs.Common.{refl, ◌∙◌, ap}
use Rattle.feed_rows.specs.JourneyStands.{Stand}
use Rattle.feed_timetable.specs.Standings.{stand_of}
use Rattle.plan_rides.specs.InTime.{arrival_in_time}
use Rattle.round_terms.specs.declared.finals.Final.{Final}
use Rattle.round_terms.specs.Tasks.{Asked}
use Rattle.round_search.proofs.FinalLaws.{end_is, end_least, end_none, ends_offer}
use Rattle.round_terms.specs.Tasks.{task_of}
use Rattle.round_search.proofs.search.Search.offer_end.Goals as goal

pub returns-in_default : goal.returns-in_default
returns-in_default g c =
    let task = task_of g.T.Fare.LabelOrder.at_most g.T.Tariff.terms c.args.self.now in
    let source = c.args.source.now in
    let arrives = c.arrival_in_time.ensures
    ∙ ap (λ (a : Asked _). arrival_in_time a.feed a.query (stand_of c.standing.result) c.args.last) c.self.view_is
    ∙ ap (λ (s : Stand). arrival_in_time task.feed task.query s c.args.last) c.standing.ensures in
    end_none task source c.requires.source c.args.last c.arrival_in_time.result arrives c.args.front.now c.in_default.is

pub returns : goal.returns
returns g c =
    let task = task_of g.T.Fare.LabelOrder.at_most g.T.Tariff.terms c.args.self.now in
    let source = c.args.source.now in
    let arrives = c.arrival_in_time.ensures
    ∙ ap (λ (a : Asked _). arrival_in_time a.feed a.query (stand_of c.standing.result) c.args.last) c.self.view_is
    ∙ ap (λ (s : Stand). arrival_in_time task.feed task.query s c.args.last) c.standing.ensures in
    let price = c.price.ensures ∙ ap (λ (a : Asked _). (g.T.Tariff.terms a.tariff).price source.label.now.fare) c.self.view_is in
    let item : Final = record {
      triple = record { arrival = c.in-Some.arrival; rides = source.label.now.rides; price = c.price.result };
      label = source.number;
      last = c.args.last;
    } in
    ends_offer task source.labels.now c.offer.result _ item c.args.front.now c.offer.new.self
    (end_is task source c.requires.source c.args.last c.arrival_in_time.result arrives c.in-Some.arrival c.in-Some.is item refl refl price
    c.requires.ends refl refl)
    (end_least task source c.requires.source c.args.last c.arrival_in_time.result arrives c.in-Some.arrival c.in-Some.is item refl refl price)
    c.offer.ensures.covered c.offer.ensures.still c.offer.ensures.from
