use Rattle.std.proofs.Common.{◌≡◌, length}
use Rattle.fare_audit.specs.declared.days.Reach.TheVariants.{OneDay, TwoDays, Longer}
use Rattle.fare_audit.specs.Days.{AreDaysBelow}
use Rattle.fare_audit.proofs.days.AuditDays.build.Given as goal

abbrev pub invariant-loop-service : goal.invariant-loop-service
invariant-loop-service l = record {
  one : length l.days.one_day ≡ l.service;
  two : length l.days.two_days ≡ l.service;
  long : length l.days.all ≡ l.service;
  one_day : AreDaysBelow l.feed l.first.0 l.count OneDay l.service l.days.one_day;
  two_days : AreDaysBelow l.feed l.first.0 l.count TwoDays l.service l.days.two_days;
  all : AreDaysBelow l.feed l.first.0 l.count Longer l.service l.days.all;
}
