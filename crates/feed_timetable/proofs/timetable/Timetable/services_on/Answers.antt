use Rattle.std.proofs.Common.{◌≡◌, ◌∙◌, length, arith, ap, subst}
use Rattle.feed_rows.specs.FeedRows.{FeedRows}
use Rattle.feed_rows.specs.ServiceDays.{is_active}
use Rattle.feed_calendar.specs.BuiltCalendar.{IsCalendarOf}
use Rattle.plain_laws.proofs.Laws.{list_below_more}
use Rattle.feed_timetable.proofs.timetable.Timetable.services_on.Goals as goal

pub loop-service-preserved : goal.loop-service-preserved
loop-service-preserved c =
    let calendar = subst (λ (feed : FeedRows). IsCalendarOf feed c.self.inside.calendar) c.self.view_is c.self.invariant.3 in
    list_below_more c.loop-service.service (λ s. is_active c.args.self.now (record { 0 = s }) c.args.day.0) _ _ _
    c.loop-service.invariant
    c.in_ok-push.ensures.items
    (c.active.ensures c.args.self.now calendar)

pub returns : goal.returns
returns c =
    let names = ap length c.items-names.ensures.value in
    let count = ap (λ (feed : FeedRows). length feed.service_names) (c.feed.view_is ∙ c.self.view_is) in
    let all : c.loop-service.service ≡ length c.args.self.now.service_names = omega (arith, names, count) in
    rw (← all) c.loop-service.invariant
