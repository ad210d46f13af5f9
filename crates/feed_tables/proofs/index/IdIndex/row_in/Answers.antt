use Rattle.std.proofs.Common.{◌∙◌, sym, ap, subst, ◌<◌, length, arith}
use Rattle.std.proofs.lemmas.Slice.Eq.{bytes_eq-Decides}
use Rattle.feed_faults.specs.RowKeys.{row_of}
use Rattle.feed_tables.specs.IdRows.{IsKeyOf, IsFound, slot_key}
use Rattle.feed_tables.specs.IndexedColumns.{IndexedColumn}
use Rattle.feed_tables.proofs.SlotLaws.{row_within, by_key, by_text}
use Rattle.feed_tables.proofs.index.IdIndex.row_in.Goals as goal
use Rattle.feed_tables.proofs.index.IdIndex.row_in.Goals.{then-id-le7-via-then-id-le7, then-id-le7-via-else-id-le7+then-eq}

pub field-requires : goal.field-requires
field-requires c =
    let within : c.args.slot < length c.self.inside.slots.entries.items = omega (arith, c.if-slot-len.false) in
    let is : IsKeyOf (slot_key c.index.result.now) c.args.id.now = subst (λ key. IsKeyOf key c.args.id.now) (sym c.if-key.false ∙ c.key.ensures) c.requires in
    row_within _ _ _ _ c.self.invariant.1 c.self.invariant.0 c.args.slot _ within c.index.ensures c.args.id.now is

pub returns-then-id-le7 : goal.returns-then-id-le7
returns-then-id-le7 c =
    let within : c.args.slot < length c.self.inside.slots.entries.items = omega (arith, c.if-slot-len.false) in
    let is : IsKeyOf (slot_key c.index.result.now) c.args.id.now = subst (λ key. IsKeyOf key c.args.id.now) (sym c.if-key.false ∙ c.key.ensures) c.requires in
    let found : IsFound c.self.inside.table.now c.self.inside.name c.index.result.now.row c.args.id.now = elim c.then-id-le7.branch [
      | then-id-le7-via-then-id-le7 w ↦ by_key _ _ _ _ c.self.invariant.1 c.self.invariant.0 c.args.slot _ within c.index.ensures c.args.id.now is w.if-id-le7.true
      | then-id-le7-via-else-id-le7+then-eq w ↦
          by_text _ _ _ _ c.self.invariant.1 c.self.invariant.0 c.args.slot _ within c.index.ensures c.args.id.now is
          (sym w.field.ensures ∙ (bytes_eq-Decides w.field.result.now c.args.id.now).0 (sym w.eq.ensures ∙ w.if-eq.true))
    ] in
    (sym (ap (λ (index : IndexedColumn). row_of index.table index.name c.args.id.now) c.self.view_is) ∙ found.0, found.1)
