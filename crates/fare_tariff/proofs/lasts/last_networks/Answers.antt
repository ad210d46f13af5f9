-- One row more, and at the end all rows.
use Rattle.std.proofs.Common.{◌∙◌, sym, ap, subst, ℕ, ◌+◌, ◌<◌, length}
use Rattle.feed_rows.specs.FeedRows.{FeedRows}
use Rattle.fare_tariff.specs.Lasts.{IsMarkedAt, network_place}
use Rattle.fare_tariff.proofs.LastLaws.{IsNetworkMarked, first_contained, network_more, network_past, network_place_low}
use Rattle.fare_tariff.proofs.lasts.last_networks.Goals as goal
use Rattle.fare_tariff.proofs.lasts.last_networks.Goals.{then-is_end, else-is_end}

pub mark-requires : goal.mark-requires
mark-requires c =
    subst (λ (n : ℕ). c.network_place.result < n) (sym c.loop-row.invariant.0)
    (subst (λ (n : ℕ). n < length c.args.timetable.now.network_names + 1)
    (sym (c.network_place.ensures ∙ ap network_place c.network.ensures))
    (network_place_low c.args.timetable.now c.row-item.result.trip c.feed-feed.ensures.sound.routes))

pub loop-row-preserved : goal.loop-row-preserved
loop-row-preserved c =
    elim c.if-is_end.branch [
      | then-is_end w ↦ rw w.marks-is (
        w.mark.ensures.len ∙ c.loop-row.invariant.0,
        network_more c.args.timetable.now c.args.ends.now c.loop-row.marks.items w.mark.new.marks.items
            c.items-row-items.result.now c.loop-row.row-index c.row-item.result c.row-item.is c.loop-row.invariant.1
            w.mark.ensures.still
            (subst (IsMarkedAt w.mark.new.marks.items) (w.network_place.ensures ∙ ap network_place w.network.ensures)
            w.mark.ensures.there),
      )
      | else-is_end w ↦ rw w.marks-is (
        c.loop-row.invariant.0,
        network_past c.args.timetable.now c.args.ends.now c.loop-row.marks.items c.items-row-items.result.now
            c.loop-row.row-index c.row-item.result c.row-item.is c.loop-row.invariant.1
            (c.is_end.ensures w.if-is_end.false),
      )
    ]

pub returns : goal.returns
returns c =
    first_contained (IsNetworkMarked c.args.timetable.now c.args.ends.now c.loop-row.marks.items)
    c.items-row-items.result.now c.args.timetable.now.stop_times c.loop-row.row-index
    (c.items-row-items.ensures.value
    ∙ ap (λ (f : FeedRows). f.stop_times) (c.feed.view_is ∙ c.feed-feed.ensures.value)) c.loop-row-test.false
    c.loop-row.invariant.1
