-- By the networks and the groups that are marked.
use Rattle.std.proofs.Common.{◌∙◌, subst, Bool, List}
use Rattle.std.specs.Prelude.{Option}
use Rattle.std.proofs.lemmas.Result.{IfOk-weaker}
use Rattle.transit_base.specs.declared.moments.Secs.{Secs}
use Rattle.feed_rows.specs.FeedRows.{FeedRows}
use Rattle.feed_rows.specs.SoundFeed.{IsSoundFeed}
use Rattle.plan_rides.specs.Spans.{stands_of}
use Rattle.fare_tariff.specs.Lasts.{AreLastGroups, AreLastNetworks}
use Rattle.fare_tariff.proofs.LastLaws.{last_moves}
use Rattle.fare_tariff.proofs.lasts.last_groups.Goals as goal

pub returns : goal.returns
returns c =
    let feed = c.args.rides.now.feed in
    let marks = c.in_ok-networks.networks.items in
    let ends = stands_of c.args.spans.now 0 in
    let is = c.timetable-timetable.ensures in
    IfOk-weaker c.groups_of.result _ _
    (λ lasts groups. last_moves feed c.args.rides.now.query c.args.spans.now marks lasts.items
    (subst IsSoundFeed is c.feed.ensures.sound) c.requires
    (subst (λ (f : FeedRows). AreLastNetworks f ends marks) is
    (subst (λ (spans : List (Option Secs)). AreLastNetworks c.timetable-timetable.result.now spans marks)
    c.stands.ensures c.in_ok-networks.ensures))
    (subst (λ (f : FeedRows). AreLastGroups f marks lasts.items) (c.feed.ensures.value ∙ is)
    (subst (λ (networks : List Bool). AreLastGroups c.feed.result.now networks lasts.items) c.deref.ensures.value
    groups))) c.groups_of.ensures
