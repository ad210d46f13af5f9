use Rattle.std.proofs.Common.{arith}
use Rattle.round_table.proofs.EntryLaws.{has_move, has_parent, has_ride, traced_more, traced_parent}
use Rattle.round_table.proofs.entries.Part.+of.Goals as goal
use Rattle.round_table.proofs.entries.Part.+of.Goals.{in_default-via-in-Some+in-Some+in_default, in_default-via-in-Some+in_default, in_default-via-in_default}

pub of-requires : goal.of-requires
of-requires t c =
    let found = c.in-Some-Some-Some in
    let at = c.label_at-label.ensures in
    let some = c.if-rides-eq0.false in (
      omega (arith, c.decreases, some),
      traced_parent c.args.labels.now c.args.rides c.args.number c.label_at-label.result.now found.parent found.ride found.taken some
          at found.is-0 found.is-1 found.is-2 c.requires,
    )

pub returns : goal.returns
returns t c =
    let found = c.in-Some-Some-Some in
    let at = c.label_at-label.ensures in
    traced_more c.args.labels.now c.args.rides c.args.number c.label_at-label.result.now found.parent found.ride found.taken _ _ c.if-rides-eq0.false
    at found.is-0 found.is-1 found.is-2 c.requires
    c.in_ok-part-in-Some-Some-Some.ensures c.in_ok-push-in-Some-Some-Some.ensures

pub unreachable-requires : goal.unreachable-requires
unreachable-requires t c =
    let at = c.label_at-label.ensures in
    elim c.in_default.branch [
      | in_default-via-in-Some+in-Some+in_default w ↦ has_move c.args.labels.now c.args.number c.label_at-label.result.now at c.args.rides _ _ c.if-rides-eq0.false w.in_default.is-0 w.in_default.is-1 w.in_default.is-2 c.requires
      | in_default-via-in-Some+in_default w ↦ has_ride c.args.labels.now c.args.number c.label_at-label.result.now at c.args.rides _ c.if-rides-eq0.false w.in_default.is-0 w.in_default.is-1 c.requires
      | in_default-via-in_default w ↦ has_parent c.args.labels.now c.args.number c.label_at-label.result.now at c.args.rides c.if-rides-eq0.false w.in_default.is-0 c.requires
    ]
