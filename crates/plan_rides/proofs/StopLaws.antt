-- The stops that a stop stands for are stops of the feed.
use Rattle.std.proofs.Common.{◌≡◌, refl, subst, ℕ, ◌<◌, ◌⊎◌, inl, inr, ⊎_elim, Bool, true, false, List, [], ◌∷◌, length, arith}
use Rattle.std.specs.Prelude.{Contains, IsTrue, Option, Some, None, slice_get}
use Rattle.std.proofs.lemmas.Bool.{cases_Bool}
use Rattle.std.proofs.lemmas.Option.{slice_get_within}
use Rattle.transit_base.specs.declared.numbers.StopId.{StopId}
use Rattle.feed_rows.specs.FeedRows.{FeedRows}
use Rattle.feed_rows.specs.StopLinks.{is_platform, is_station, is_member, stop_set}
use Rattle.feed_rows.specs.Journeys.{stands_for}
use Rattle.plan_rides.proofs.MarkLaws.{member_of_stands_for}
use Rattle.plain_laws.specs.Plain.{at_and, filled_and, ids_where}
use Rattle.plain_laws.proofs.Laws.{Contains-slice_get, Contains-cons_cases, picks_below-tells}

-- a place where a test holds is one of the list
place_inside : {X : Type 0} (xs : List X) (i : ℕ) (test : X → Bool) → at_and xs i test ≡ true → i < length xs
place_inside {X} xs i test holds = by (slice_get xs i) refl
  where
    by : (o : Option X) → slice_get xs i ≡ o → i < length xs
    by None is = absurd (let no : false ≡ true = subst (λ (o : Option X). filled_and o test ≡ true) is holds in cc)
    by (Some x) is = slice_get_within xs i x is

-- a stop that another stands for is one of the feed
pub member_inside : (feed : FeedRows) (stop member : StopId) (k : ℕ) → slice_get (stop_set feed stop) k ≡ Some member → member.0 < length feed.stops
unfolding stop_set
member_inside feed stop member k is = by (cases_Bool (is_platform feed stop)) (cases_Bool (is_station feed stop))
  where
    at : Contains (stop_set feed stop) member
    at = Contains-slice_get (stop_set feed stop) k member is

    itself : is_platform feed stop ≡ true → Contains (stop ∷ []) member → member.0 < length feed.stops
    itself platform in_one =
        ⊎_elim (λ same. subst (λ (s : StopId). s.0 < length feed.stops) same (place_inside feed.stops stop.0 _ platform))
        (λ none. let lt = none.1 in absurd (omega (arith, lt))) (Contains-cons_cases stop [] member in_one)

    platforms : Contains (ids_where (λ i. record { 0 = i }) (is_member stop) feed.stops) member → member.0 < length feed.stops
    platforms among =
        let p = picks_below-tells (length feed.stops) (λ i. at_and feed.stops i (is_member stop)) (λ i. record { 0 = i }) member among in
        subst (λ (s : StopId). s.0 < length feed.stops) p.is p.within

    set_is : (members : List StopId) → stop_set feed stop ≡ members → Contains members member
    set_is members same = subst (λ ms. Contains ms member) same at

    by : (is_platform feed stop ≡ true) ⊎ (is_platform feed stop ≡ false) → (is_station feed stop ≡ true) ⊎ (is_station feed stop ≡ false) →
        member.0 < length feed.stops
    by (inl platform) _ = itself platform (set_is (stop ∷ []) (rw platform refl))
    by (inr other) (inl station) = platforms (set_is (ids_where (λ i. record { 0 = i }) (is_member stop) feed.stops) (rw (other, station) refl))
    by (inr other) (inr neither) = let lt = (set_is [] (rw (other, neither) refl)).1 in absurd (omega (arith, lt))

-- so is each stop for which it stands
pub stands_inside : (feed : FeedRows) (stop member : StopId) → IsTrue (stands_for feed stop member) → member.0 < length feed.stops
stands_inside feed stop member stands =
    let among = member_of_stands_for feed stop member stands in
    member_inside feed stop member among.0 among.2
