use Rattle.std.proofs.Common.{rules, arith}
use Rattle.feed_tables.proofs.SlotLaws.{free_slots}
use Rattle.feed_tables.proofs.slots.slots_of.Goals as goal

pub loop-step-init : goal.loop-step-init
loop-step-init c =
    let limit = c.requires in
    let least-count = c.min-count.ensures in
    let pilots = c.in_ok-vec.ensures.items_if_clones_equal (λ y clone. clone) in
    let entries = c.in_ok-vec-2.ensures.items_if_clones_equal (λ y clone. clone) in
    (free_slots _ _ _ _ _ (omega (arith, least-count)) (omega (arith, least-count)) (omega arith) (omega (arith, limit)) pilots entries c.of.ensures.key, search rules)
