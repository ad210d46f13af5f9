use Rattle.std.proofs.Common.{◌≡◌, ◌⊎◌, inl, inr, ⊎_elim, ap, subst, List}
use Rattle.std.specs.Prelude.{Option}
use Rattle.ride_cache.specs.declared.rides.KeptRide.{KeptRide}
use Rattle.ride_cache.specs.Kept.{HoldsFor}
use Rattle.ride_cache.proofs.rides.RideCache.put.Goals as goal

pub returns : goal.returns
returns g c =
    λ other kept at.
    let one : KeptRide g.row.T.Denot = record { ride = c.args.ride.now; value = c.args.value } in
    let that : KeptRide g.row.T.Denot = record { ride = other; value = kept } in
    ⊎_elim
    (λ (old : HoldsFor c.self.inside.cache other kept). let r : HoldsFor c.args.self.now other kept ⊎ ((c.args.ride.now ≡ other) × (c.args.value ≡ kept)) = inl (subst (λ (cs : List (Option (KeptRide g.row.T.Denot))). HoldsFor cs other kept) c.self.view_is old) in r)
    (λ (new : one ≡ that). let r : HoldsFor c.args.self.now other kept ⊎ ((c.args.ride.now ≡ other) × (c.args.value ≡ kept)) = inr (ap (λ (k : KeptRide g.row.T.Denot). k.ride) new, ap (λ (k : KeptRide g.row.T.Denot). k.value) new) in r)
    (c.put.ensures that at)
