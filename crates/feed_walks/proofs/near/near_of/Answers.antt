use Rattle.std.proofs.Common.{◌∙◌, refl, sym, Some, None}
use Rattle.std.proofs.lemmas.List.{append-nil}
use Rattle.feed_walks.proofs.NearLaws.{near_reached, near_none}
use Rattle.feed_walks.proofs.near.near_of.Goals as goal
use Rattle.feed_walks.proofs.near.near_of.Goals.{in-Some+in_ok-extend_from_slice-2, in_default}

pub returns-then-not-is_platform : goal.returns-then-not-is_platform
returns-then-not-is_platform c =
    rw c.clear.ensures.items (near_none c.args.feed.now c.args.from (sym c.is_platform.ensures ∙ c.if-not-is_platform.true))

pub returns : goal.returns
returns c = elim c.match-station_of.branch [
  | in-Some+in_ok-extend_from_slice-2 w ↦
      near_reached c.args.feed.now c.args.reached.now c.args.from (Some w.in-Some.station) c.match-station_of.near.items _ c.requires.sound c.requires.reached (sym c.station_of.ensures ∙ w.in-Some.is)
      (rw (w.near-is, w.in_ok-extend_from_slice-2.ensures.items, w.get-in-Some.ensures, c.in_ok-extend_from_slice.ensures.items, c.clear.ensures.items, c.get.ensures) refl) c.put_in_order.ensures
  | in_default w ↦
      near_reached c.args.feed.now c.args.reached.now c.args.from None c.match-station_of.near.items _ c.requires.sound c.requires.reached (sym c.station_of.ensures ∙ w.in_default.is)
      (rw (w.near-is, c.in_ok-extend_from_slice.ensures.items, c.clear.ensures.items, c.get.ensures) (sym (append-nil _))) c.put_in_order.ensures
]
