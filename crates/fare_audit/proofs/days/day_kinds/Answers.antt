use Rattle.std.proofs.Common.{◌∙◌, ap, length, ◌+◌}
use Rattle.std.proofs.lemmas.List.{length_push}
use Rattle.std.proofs.lemmas.Option.{none-some}
use Rattle.fare_audit.proofs.DayLaws.{kinds_more}
use Rattle.fare_audit.proofs.days.day_kinds.Goals as goal

pub loop-number-init : goal.loop-number-init
loop-number-init c = record { many = ap length c.new-kinds.ensures.items; are = rw c.new-kinds.ensures.items (λ n kind at. absurd (none-some kind at)) }

pub loop-number-preserved : goal.loop-number-preserved
loop-number-preserved c =
    record {
      many = ap length c.in_ok-push.ensures.items ∙ length_push _ _ ∙ ap (λ n. n + 1) c.loop-number.invariant.many;
      are = kinds_more c.args.feed.now c.args.first.0 c.loop-number.kinds.items _ c.loop-number.number _ c.loop-number.invariant.are c.loop-number.invariant.many c.in_ok-push.ensures.items c.in_ok-day_kind.ensures;
    }
