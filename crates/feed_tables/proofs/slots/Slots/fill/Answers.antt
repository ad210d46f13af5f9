use Rattle.std.proofs.Common.{refl, sym, ◌∙◌}
use Rattle.feed_tables.proofs.SlotLaws.{put_id}
use Rattle.feed_tables.proofs.slots.Slots.fill.Goals as goal
use Rattle.feed_tables.proofs.slots.Slots.fill.Goals.{in-Some-get, in-None-1, in-Some-get+else-id_ok}

pub loop-member-preserved : goal.loop-member-preserved
loop-member-preserved c = elim c.match-get.branch [
  | in-Some-get w ↦
      let lookup = w.in-Some-get.ensures.lookup in (
        put_id c.args.rows.now c.loop-member.self c.match-get.self _ w.slot_by-slot.result w.in-Some-get.entry.now w.of.result c.loop-member.invariant.0 lookup.3.0 (sym lookup.1)
            (sym w.id_ok.ensures ∙ w.if-id_ok.true) w.of.ensures.key w.of.ensures.row (rw w.self-is refl) (rw w.self-is refl),
        rw w.self-is c.loop-member.invariant.1,
      )
  | in-None-1 w ↦ rw w.self-is c.loop-member.invariant
  | in-Some-get+else-id_ok w ↦ rw w.self-is c.loop-member.invariant
]
