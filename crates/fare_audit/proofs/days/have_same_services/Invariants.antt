use Rattle.std.proofs.Common.{◌≡◌, All, take}
use Rattle.feed_rows.specs.ServiceDays.{is_active}
use Rattle.fare_audit.proofs.days.have_same_services.Given as goal

abbrev pub invariant-loop-row : goal.invariant-loop-row
invariant-loop-row l = All (λ row. is_active l.feed row.service l.a.0 ≡ is_active l.feed row.service l.b.0) (take l.row-index l.row-items)
