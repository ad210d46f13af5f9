-- The kinds of the legs that rides are.
use Rattle.std.proofs.Common.{◌≡◌, sym, ◌∙◌, ap, subst, ℕ, ◌⊎◌, ⊎_elim, List, Some, refl}
use Rattle.std.specs.Prelude.{Option}
use Rattle.feed_rows.specs.declared.journeys.RideFacts.{RideFacts}
use Rattle.feed_rows.specs.FeedRows.{FeedRows}
use Rattle.feed_rows.specs.Legs.{leg_facts}
use Rattle.fare_automaton.specs.Known.{KnownPicks}
use Rattle.fare_automaton.specs.Terms.{FareTerms}
use Rattle.fare_timeframes.specs.Cuts.{AreLike}
use Rattle.leg_kinds.specs.Kinds.{IsOfKind, KindList, timeless}
use Rattle.ride_cache.specs.declared.rides.KeptRide.{KeptRide}
use Rattle.ride_cache.specs.Kept.{HoldsFor}
use Rattle.ride_kinds.specs.RideKinds.{AreKindsOf, StayKnown}

-- the legs that like rides are differ in their moments at most
timeless_like : (feed : FeedRows) (a b : RideFacts) → AreLike feed a b → timeless (leg_facts feed a) ≡ timeless (leg_facts feed b)
unfolding leg_facts
timeless_like feed a b like = rw (like.network, like.from_areas, like.to_areas, like.from_frames, like.to_frames) refl

-- so they are of one kind
pub kind_like : {T : Type 0} (lists : List (KindList T)) (feed : FeedRows) (a b : RideFacts) (kind : ℕ) → AreLike feed a b → IsOfKind lists (leg_facts feed a) kind → IsOfKind lists (leg_facts feed b) kind
kind_like lists feed a b kind like is = is ∙ ap Some (timeless_like feed a b like)

-- the numbers that are kept stay those of the kinds
pub kinds_still : (old new : KnownPicks) (cache : List (Option (KeptRide ℕ))) → new.terms ≡ old.terms → StayKnown old new → AreKindsOf old cache → AreKindsOf new cache
kinds_still old new cache terms still were ride kept at =
    let P : FareTerms → Type 0 = λ t. IsOfKind new.lists (leg_facts t.feed ride) kept in
    subst P (sym terms) (still (leg_facts old.terms.feed ride) kept (were ride kept at))

-- and so they do with one more
pub kinds_more : (old new : KnownPicks) (cache now : List (Option (KeptRide ℕ))) (ride : RideFacts) (kind : ℕ) → new.terms ≡ old.terms → StayKnown old new → AreKindsOf old cache →
    IsOfKind new.lists (leg_facts old.terms.feed ride) kind → ((other : RideFacts) (kept : ℕ) → HoldsFor now other kept → HoldsFor cache other kept ⊎ ((ride ≡ other) × (kind ≡ kept))) → AreKindsOf new now
kinds_more old new cache now ride kind terms still were is more other kept at =
    let P : FareTerms → Type 0 = λ t. IsOfKind new.lists (leg_facts t.feed other) kept in
    ⊎_elim
    (λ (before : HoldsFor cache other kept). kinds_still old new cache terms still were other kept before)
    (λ (here : (ride ≡ other) × (kind ≡ kept)).
    subst P (sym terms) (subst (λ (r : RideFacts). IsOfKind new.lists (leg_facts old.terms.feed r) kept) here.0 (subst (IsOfKind new.lists (leg_facts old.terms.feed ride)) here.1 is)))
    (more other kept at)
