use Rattle.std.proofs.Common.{◌≡◌, take}
use Rattle.plan_plain.proofs.path.Path.rides.Given as goal

abbrev pub invariant-loop-ride : goal.invariant-loop-ride
invariant-loop-ride l = l.rides ≡ take l.ride-index l.self.rides
