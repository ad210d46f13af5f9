-- How a round goes on from the positions that its labels reach.
use Rattle.std.specs.Prelude.{◌≡◌, ◌⊎◌, ℕ, ◌<◌, ◌-◌, true, false, List, All, Some, length, slice_get, ◌<ℤ◌}
use Rattle.feed_rows.specs.declared.journeys.RideFacts.{RideFacts}
use Rattle.plan_rides.specs.Cutoffs.{AreLastDepartures, CutoffOf, cutoff_of, is_early}
use Rattle.plan_rides.specs.Reached.{AreKept, HoldsFrom, IsReachedFrom}
use Rattle.plan_rides.specs.declared.caught.CaughtRide.{CaughtRide}
use Rattle.plan_rides.specs.declared.positions.Reached.{Reached}
use Rattle.round_terms.specs.declared.finals.Final.{Final}
use Rattle.round_terms.specs.declared.label.Label.{Label}
use Rattle.round_terms.specs.declared.leg.Leg.{Leg}
use Rattle.round_terms.specs.Labels.{facts_of}
use Rattle.round_terms.specs.Legs.{AreKnown}
use Rattle.round_terms.specs.Steps.{stand_of_facts}
use Rattle.round_terms.specs.Tasks.{Task}
use Rattle.round_terms.specs.Terms.{Facts}
use Rattle.round_search.specs.declared.bounds.Until.{Until}
use Rattle.round_search.specs.declared.kept.Kept.{Kept}
use Rattle.round_search.specs.declared.offers.Limits.{Limits}
use Rattle.round_search.specs.declared.offers.Scan.{Scan}
use Rattle.round_search.specs.declared.offers.Served.{Served}
use Rattle.round_search.specs.declared.scan.Round.{Round}
use Rattle.round_search.specs.declared.search.Source.{Source}
use Rattle.round_search.specs.Bounds.{AreUntils, DepartsAfter, IsAnyRide, IsCutAfter, IsFair}
use Rattle.round_search.specs.Scans.{IsMarked, IsRound}
use Rattle.round_search.specs.Settled.{ArePassed, IsTried}

-- ---- rides that are tried

-- what the search may lack lies behind these limits for rides from such facts
pub record AreLimits {F M : Type 0} (task : Task F M) (finals : List Final) (a : Facts F) (limits : Limits) : Type 0 where
  pub all : IsFair task finals a IsAnyRide (cutoff_of limits.latest)
  pub late : IsFair task finals a (DepartsAfter limits.since.0) (cutoff_of limits.late)
  pub after : IsCutAfter task finals a limits.after.0

-- the ride lies behind them: it arrives too late, or departs later than the moment and arrives too late for that, or all is cut off
-- behind it
abbrev pub IsBehind : Limits → RideFacts → Type 0
IsBehind limits facts =
    (is_early (cutoff_of limits.latest) facts.to.0 facts.arrival.0 ≡ false)
    ⊎ (((limits.since.0 <ℤ facts.departure.0) × (is_early (cutoff_of limits.late) facts.to.0 facts.arrival.0 ≡ false))
    ⊎ (limits.after.0 <ℤ facts.arrival.0))

-- the ride needn't be tried: it departs when it has passed, or lies behind the limits, or the search may pass over any journey
abbrev pub IsLeftOut : {F M L : Type 0} → Task F M → Served L → RideFacts → Type 0
IsLeftOut task served facts =
    (served.passed.0 <ℤ facts.departure.0) ⊎ (IsBehind served.limits facts ⊎ (task.loose ≡ true))

-- rides serve for such facts at the position: among them are those from there that arrive early enough, by a cutoff that is fair to
-- them
pub record ServeFor {F M : Type 0} (task : Task F M) (round : Round F M) (a : Facts F) (reached : Reached) (rides : List CaughtRide) : Type 0 where
  pub latest : CutoffOf
  pub fair : IsFair task round.finals.now a IsAnyRide latest
  pub holds : HoldsFrom round.positions.now latest reached rides

-- the rides serve for the source at the position that it reaches, something is known of each, what the search may lack lies behind the
-- limits, and all is done to which they lead that depart when they have passed
pub record IsServed {F M L : Type 0} (task : Task F M) (Is : ℕ → RideFacts → Type 0) (round : Round F M) (source : Source F M)
    (served : Served L) (bags : List (Label F M)) : Type 0 where
  pub labels : source.labels.now ≡ round.labels.now
  pub from : IsReachedFrom round.positions.now (stand_of_facts (facts_of source.label.now)) served.reached.now
  pub serve : ServeFor task round (facts_of source.label.now) served.reached.now served.rides.now
  pub known : AreKnown Is served.rides.now
  pub limits : AreLimits task round.finals.now (facts_of source.label.now) served.limits
  pub passed : ArePassed task round.finals.now (facts_of source.label.now) served.reached.now.earliest.0 served.rides.now served.passed.0 bags

-- it is known of the leg, by what knows it
pub record IsKnownLeg {L : Type 0} (Knows : L → Type 0) (Is : L → ℕ → RideFacts → Type 0) (leg : Leg L) : Type 0 where
  pub knows : Knows leg.legs.now
  pub known : Is leg.legs.now leg.place leg.caught.now.facts

-- ---- positions of a scan

-- the position is one that a label of the round reaches; there is until when rides from that may arrive; and by the cutoffs by which
-- rides from there are kept, the search may lack what those lead to that are left out
pub record IsPlace {F M : Type 0} (task : Task F M) (scan : Scan F M) (reached : Reached) : Type 0 where
  pub round : IsRound task scan.round.now
  pub marked : IsMarked scan.round.now reached
  pub lasts : AreLastDepartures task.feed task.query (cutoff_of scan.cutoffs.latest) (cutoff_of scan.cutoffs.lasts)
  pub fair : (x : Label F M) → slice_get scan.round.now.labels.now reached.number ≡ Some x →
      IsFair task scan.round.now.finals.now (facts_of x) IsAnyRide (cutoff_of scan.cutoffs.latest)
  pub some : reached.number - scan.round.now.begin < length scan.untils.now
  pub until : (x : Label F M) (until : Until) → slice_get scan.round.now.labels.now reached.number ≡ Some x →
      slice_get scan.untils.now (reached.number - scan.round.now.begin) ≡ Some until →
      AreUntils task scan.round.now.finals.now (facts_of x) until

-- the rides that are kept are those from a position that arrive early enough, something is known of each, and they were tried from the
-- labels that are settled
pub record IsKept {F M L : Type 0} (task : Task F M) (Is : ℕ → RideFacts → Type 0) (scan : Scan F M) (kept : Kept L)
    (bags : List (Label F M)) : Type 0 where
  pub are : AreKept scan.round.now.positions.now (cutoff_of scan.cutoffs.latest) kept.rides
  pub known : AreKnown Is kept.rides.rides
  pub tried : All (IsTried task scan.round.now.finals.now scan.round.now.count kept.rides.rides bags) kept.settled.labels.items
