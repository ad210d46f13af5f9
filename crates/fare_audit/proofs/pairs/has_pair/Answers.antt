use Rattle.std.proofs.Common.{subst}
use Rattle.std.proofs.lemmas.Bool.{eqb-true}
use Rattle.ride_cache.specs.Kept.{Holds}
use Rattle.fare_audit.proofs.FoundLaws.{pair_equal}
use Rattle.fare_audit.proofs.pairs.has_pair.Goals as goal

pub returns-then-kept-pair : goal.returns-then-kept-pair
returns-then-kept-pair c =
    λ same.
    let kept = c.in-Some.kept in
    subst (Holds c.args.pairs.now) (pair_equal kept c.args.pair c.if-kept-pair.true (eqb-true kept.to.0 c.args.pair.to.0 same)) c.in-Some.ensures
