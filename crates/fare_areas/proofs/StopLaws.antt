-- Stops with the same areas.
use Rattle.std.proofs.Common.{◌≡◌, refl, sym, ◌∙◌, ap, ℕ, ◌+◌, ◌<◌, ◌≤◌, ◌⊎◌, inl, inr, List, [], ◌∷◌, ◌++◌, length, Contains, arith}
use Rattle.std.specs.Prelude.{Option, Some, slice_get, unwrap_or}
use Rattle.std.proofs.lemmas.Bool.{cases_lt}
use Rattle.std.proofs.lemmas.List.{length_push}
use Rattle.std.proofs.lemmas.Option.{slice_get_past}
use Rattle.transit_base.specs.declared.numbers.StopId.{StopId}
use Rattle.feed_rows.specs.FeedRows.{FeedRows}
use Rattle.feed_rows.specs.Legs.{stop_areas}
use Rattle.plain_laws.proofs.Laws.{Contains-slice_get, slice_get-new_item, slice_get-old_item}
use Rattle.fare_areas.specs.LikeStops.{AreFirsts, AreLikeStops}

-- no stop is kept yet
pub no_firsts : (feed : FeedRows) (firsts : List (Option StopId)) → ((stop : StopId) → Contains firsts (Some stop) → ⊥) → AreFirsts feed firsts
no_firsts feed firsts none = λ place stop at. absurd (none stop (Contains-slice_get firsts place (Some stop) at))

-- beside no stop, each stands for itself
pub no_likes : (feed : FeedRows) (likes : List StopId) → likes ≡ [] → AreLikeStops feed likes
no_likes feed likes none = λ stop. rw none (ap (λ o. stop_areas feed (unwrap_or o stop)) (slice_get_past [] stop.0 (omega arith)))

-- one stop more
pub likes_more : (feed : FeedRows) (likes new : List StopId) (n : ℕ) (like : StopId) → AreLikeStops feed likes → length likes ≡ n → new ≡ likes ++ like ∷ [] →
    stop_areas feed like ≡ stop_areas feed (record { 0 = n }) → AreLikeStops feed new
likes_more feed likes new n like were many made same stop = step (cases_lt stop.0 n)
  where
    long : length new ≡ length likes + 1
    long = ap length made ∙ length_push likes like

    later : (n < stop.0) ⊎ (stop.0 ≤ n) → n ≤ stop.0 → stop_areas feed (unwrap_or (slice_get new stop.0) stop) ≡ stop_areas feed stop
    later (inl past) le = ap (λ o. stop_areas feed (unwrap_or o stop)) (slice_get_past new stop.0 (omega (arith, past, long, many)))
    later (inr by) le =
        let here : n ≡ stop.0 = omega (arith, by, le) in
        ap (λ o. stop_areas feed (unwrap_or o stop)) (ap (slice_get new) (sym here) ∙ slice_get-new_item likes new like n many made)
        ∙ same ∙ ap (λ (m : ℕ). stop_areas feed (record { 0 = m })) here

    step : (stop.0 < n) ⊎ (n ≤ stop.0) → stop_areas feed (unwrap_or (slice_get new stop.0) stop) ≡ stop_areas feed stop
    step (inl old) =
        ap (λ o. stop_areas feed (unwrap_or o stop)) (sym (slice_get-old_item likes new like stop.0 made (omega (arith, old, many)))) ∙ were stop
    step (inr past) = later (cases_lt n stop.0) past
