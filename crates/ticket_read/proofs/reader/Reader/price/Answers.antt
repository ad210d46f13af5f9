use Rattle.std.proofs.Common.{ap, arith, length}
use Rattle.feed_rows.specs.Journeys.{Asked}
use Rattle.ticket_read.proofs.LoopLaws.{legs_many}
use Rattle.ticket_read.proofs.reader.Reader.price.Goals as goal

pub verify-requires : goal.verify-requires
verify-requires c =
    let legs = rw c.in-Some.is at c.in_ok-legs.ensures in
    let many = legs_many _ _ _ legs in
    let kept = ap length c.as_slice.ensures.value in
    let few = c.self.invariant.0.few in
    let view = ap (λ (a : Asked). a.query.rides) c.self.view_is in
    let asked = c.requires in
    record { few = omega (arith, many, kept, few, view, asked) }
