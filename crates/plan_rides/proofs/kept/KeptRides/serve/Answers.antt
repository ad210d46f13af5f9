use Rattle.std.proofs.Common.{subst, sym}
use Rattle.std.specs.Prelude.{IfSome}
use Rattle.plan_rides.specs.declared.positions.Reached.{Reached}
use Rattle.plan_rides.specs.Reached.{AreKept, HoldsFrom, Kept}
use Rattle.plan_rides.proofs.FoundLaws.{holds_later}
use Rattle.plan_rides.proofs.kept.KeptRides.serve.Goals as goal

pub returns-in-Some : goal.returns-in-Some
returns-in-Some c is me latest kept =
    let rides = c.self.inside.rides.items in
    let holds = subst (λ o. IfSome o (λ (of : Reached). HoldsFrom me latest of rides)) c.in-Some.is
    (subst (AreKept me latest) (sym c.self.view_is) kept) in
    subst (λ (k : Kept). HoldsFrom me latest c.args.reached.now k.rides) c.self.view_is
    (holds_later me latest c.in-Some.of c.args.reached.now rides (c.is_no_later.ensures is) holds)
