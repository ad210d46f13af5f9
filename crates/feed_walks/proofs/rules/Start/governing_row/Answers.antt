use Rattle.std.proofs.Common.{◌∙◌, refl, sym, ap, Some}
use Rattle.feed_rows.specs.StopLinks.{parent_of, row_between}
use Rattle.feed_walks.proofs.rules.Start.governing_row.Goals as goal

pub returns-in-Some : goal.returns-in-Some
returns-in-Some c = rw (sym (c.row_at.ensures c.args.feed.now (Some c.args.self.now.stop) c.requires.own) ∙ c.in-Some.is) refl

pub returns-in-Some-row_at : goal.returns-in-Some-row_at
returns-in-Some-row_at c =
    let feed = c.args.feed.now in
    let own = Some c.args.self.now.stop in
    rw (
      sym (c.row_at.ensures feed own c.requires.own) ∙ c.in_default.is,
      ap (row_between feed own) (sym c.station_of-station.ensures) ∙ sym (c.row_at-2.ensures feed own c.requires.own) ∙ c.in-Some-row_at.is,
    ) refl

pub returns-in-Some-row_at-2 : goal.returns-in-Some-row_at-2
returns-in-Some-row_at-2 c =
    let feed = c.args.feed.now in
    let own = Some c.args.self.now.stop in
    rw (
      sym (c.row_at.ensures feed own c.requires.own) ∙ c.in_default.is,
      ap (row_between feed own) (sym c.station_of-station.ensures) ∙ sym (c.row_at-2.ensures feed own c.requires.own) ∙ c.in_default-row_at.is,
      ap (λ from. row_between feed from (Some c.args.to)) (sym c.requires.station) ∙ sym (c.row_at-3.ensures feed c.args.self.now.station c.requires.shared) ∙ c.in-Some-row_at-2.is,
    ) refl

pub returns : goal.returns
returns c =
    let feed = c.args.feed.now in
    let own = Some c.args.self.now.stop in
    let last = c.row_at-4.ensures feed c.args.self.now.station c.requires.shared
    ∙ ap (row_between feed c.args.self.now.station) c.station_of-station.ensures
    ∙ ap (λ from. row_between feed from (parent_of feed c.args.to)) c.requires.station in
    rw (
      sym (c.row_at.ensures feed own c.requires.own) ∙ c.in_default.is,
      ap (row_between feed own) (sym c.station_of-station.ensures) ∙ sym (c.row_at-2.ensures feed own c.requires.own) ∙ c.in_default-row_at.is,
      ap (λ from. row_between feed from (Some c.args.to)) (sym c.requires.station) ∙ sym (c.row_at-3.ensures feed c.args.self.now.station c.requires.shared) ∙ c.in_default-row_at-2.is,
    ) last
