-- The marks of the stops at which rides may board.
use Rattle.std.proofs.Common.{◌≡◌, refl, sym, ◌∙◌, ap, subst, ℕ, zero, suc, ◌+◌, ◌<◌, ◌≤◌, ◌⊎◌, inl, inr, ⊎_elim, true, List, [], ◌∷◌, ◌++◌, length, get_or, take, drop, arith}
use Rattle.std.specs.Prelude.{Bool, IsTrue, Some, slice_get, ◌==◌}
use Rattle.std.proofs.lemmas.Bool.{cases_lt}
use Rattle.std.proofs.lemmas.Bool.Decides.{nat_tests}
use Rattle.std.proofs.lemmas.List.{append-nil, drop_all, take_all}
use Rattle.std.proofs.lemmas.List.Folds.{Any-from_list_any, list_any-from_Any}
use Rattle.std.proofs.lemmas.Option.{same_Some, slice_get_within, slice_get-get_or}
use Rattle.transit_base.specs.declared.numbers.StopId.{StopId}
use Rattle.feed_rows.specs.declared.journeys.Query.{Query}
use Rattle.feed_rows.specs.FeedRows.{FeedRows}
use Rattle.feed_rows.specs.Journeys.{stands_for}
use Rattle.feed_rows.specs.JourneyStands.{Stand, first_stand, way_to}
use Rattle.feed_rows.specs.StopLinks.{stop_set}
use Rattle.feed_walks.specs.OutOf.{out_of}
use Rattle.feed_walks.specs.declared.steps.Step.{Step}
use Rattle.plain_laws.proofs.AddsLaws.{adds_more, adds_same}
use Rattle.plan_rides.specs.Boarding.{Seeking, is_marked, MarksFrom, AreMarks, AddsMarks, IsNear, MarksFirsts, MayRide, MayBoard, IsAmong}
use Rattle.plan_rides.proofs.CaughtLaws.{walk_or_own, in_walks}

-- the stop of a number
abbrev pub stop_id : ℕ → StopId
stop_id n = record { 0 = n }

-- a stop of those that a stop stands for
pub stands_for_member : (feed : FeedRows) (stop member : StopId) (k : ℕ) → slice_get (stop_set feed stop) k ≡ Some member → IsTrue (stands_for feed stop member)
stands_for_member feed stop member k at =
    let lt = slice_get_within (stop_set feed stop) k member at in
    let is = same_Some _ _ (sym (slice_get-get_or (stop_set feed stop) k member lt) ∙ at) in
    list_any-from_Any (λ (s : StopId). s.0 == member.0) (stop_set feed stop) (k, member, lt, is, same member.0)
  where
    same : (n : ℕ) → (n == n) ≡ true
    same n = grind (arith, nat_tests)

-- and each that it stands for is one
pub member_of_stands_for : (feed : FeedRows) (stop member : StopId) → IsTrue (stands_for feed stop member) → IsAmong (stop_set feed stop) (length (stop_set feed stop)) member
member_of_stands_for feed stop member h =
    let some = Any-from_list_any (λ (s : StopId). s.0 == member.0) (stop_set feed stop) h in
    (some.0, some.2, slice_get-get_or (stop_set feed stop) some.0 some.1 some.2 ∙ ap Some (some.3 ∙ ap stop_id (told some.1.0 member.0 some.4)))
  where
    told : (m n : ℕ) → (m == n) ≡ true → m ≡ n
    told m n e = grind (arith, nat_tests)

-- one more of these stops
pub among_more : (stops : List StopId) (k : ℕ) (d stop : StopId) → k < length stops → IsAmong stops (k + 1) stop → IsAmong stops k stop ⊎ (stop ≡ get_or stops k d)
among_more stops k d stop lt among =
    let below = among.1 in
    ⊎_elim (λ lower. inl (among.0, lower, among.2))
    (λ upper. let same : among.0 ≡ k = omega arith in inr (same_Some _ _ (sym among.2 ∙ ap (slice_get stops) same ∙ slice_get-get_or stops k d lt)))
    (cases_lt among.0 k)

-- a stop past the end of the marks counts as marked
past_marked : (marks : List Bool) (stop : ℕ) → length marks ≤ stop → is_marked marks stop ≡ true
past_marked [] stop past = refl
past_marked (m ∷ marks) zero past = absurd (omega arith)
past_marked (m ∷ marks) (suc stop) past = past_marked marks stop (omega arith)

-- before the first walk
pub marks_start : (first : StopId) (walks : List Step) (old new : List Bool) →
    AddsMarks (λ stop. stop ≡ first.0) old new →
    AddsMarks (IsNear first walks 0) old new
marks_start first walks old new adds =
    adds_same adds (λ stop near. ⊎_elim (λ same. same) (λ among. let below = among.1 in absurd (omega (arith, below))) near)

-- the first stop is among them
pub marks_own : (first : StopId) (walks : List Step) (n : ℕ) (old new : List Bool) →
    AddsMarks (IsNear first walks n) old new →
    AddsMarks (λ stop. stop ≡ first.0) old new
marks_own first walks n old new adds = adds_same adds (λ stop same. inl same)

-- one walk more
pub marks_walk : (first : StopId) (walks : List Step) (k : ℕ) (d : Step) (old mid new : List Bool) → k < length walks →
    AddsMarks (IsNear first walks k) old mid → AddsMarks (λ other. other ≡ (get_or walks k d).to.0) mid new →
    AddsMarks (IsNear first walks (k + 1)) old new
marks_walk first walks k d old mid new lt before adds =
    adds_more (λ a b. b ∙ a) before adds
    (λ stop near. ⊎_elim
    (λ same. inl (inl same))
    (λ among.
    let below = among.1 in
    ⊎_elim
    (λ lower. inl (inr (among.0, lower, among.2, among.3, among.4)))
    (λ upper.
    let same : among.0 ≡ k = omega arith in
    inr (sym among.4 ∙ ap (λ (s : Step). s.to.0) (same_Some _ _
    (sym among.3 ∙ ap (slice_get walks) same ∙ slice_get-get_or walks k d lt))))
    (cases_lt among.0 k))
    near)

-- all walks: where a first ride may board is marked
pub marks_near : (feed : FeedRows) (query : Query) (first : StopId) (walks : List Step) (n : ℕ) (old new : List Bool) →
    walks ≡ out_of feed first → length walks ≤ n → length old ≡ length feed.stops →
    AddsMarks (IsNear first walks n) old new →
    MarksFrom feed query new (first_stand query first)
marks_near feed query first walks n old new are all many adds stop way is = ⊎_elim
    (λ linked. ⊎_elim
    (λ (inside : stop.0 < length feed.stops).
    let step : Step = record { to = stop; seconds = record { 0 = linked.0 } } in
    let at = in_walks feed first stop linked.0 inside linked.1 in
    let lt = at.1 in
    let long = ap length are in
    adds.all stop.0 (inr (
      at.0,
      omega (arith, lt, long, all),
      step,
      ap (λ ws. slice_get ws at.0) are ∙ slice_get-get_or
          (out_of feed first) at.0 step lt ∙ ap Some at.2,
      refl,
    )))
    (λ past. let same = adds.right in past_marked new stop.0 (omega (arith, past, many, same)))
    (cases_lt stop.0 (length feed.stops)))
    (λ own. adds.all stop.0 (inl (ap (λ (s : StopId). s.0) own.0)))
    (walk_or_own feed query (first_stand query first) stop way is)

-- one first stop more
pub marks_first : (feed : FeedRows) (query : Query) (firsts : List StopId) (k : ℕ) (d : StopId) (Part : ℕ → Type 0)
    (old new : List Bool) →
    k < length firsts → MarksFirsts feed query firsts k old → AddsMarks Part old new →
    MarksFrom feed query new (first_stand query (get_or firsts k d)) → MarksFirsts feed query firsts (k + 1) new
marks_first feed query firsts k d Part old new lt before adds here first among = ⊎_elim
    (λ lower stop way is. adds.still stop.0 (before first lower stop way is))
    (λ same. subst (λ (s : StopId). MarksFrom feed query new (first_stand query s)) (sym same) here)
    (among_more firsts k d first lt among)

-- all first stops
pub marks_all : (feed : FeedRows) (query : Query) (firsts : List StopId) (marks : List Bool) →
    firsts ≡ stop_set feed query.from →
    MarksFirsts feed query firsts (length firsts) marks →
    (first : StopId) → IsTrue (stands_for feed query.from first) → MarksFrom feed query marks (first_stand query first)
marks_all feed query firsts marks same all first stands =
    let member = member_of_stands_for feed query.from first stands in
    let long = ap length same in
    let lt = member.1 in
    all first (member.0, omega (arith, lt, long), ap (λ stops. slice_get stops member.0) same ∙ member.2)

-- what was written in place
pub marks_back : {X : Type 0} (items new : List X) (len : ℕ) → len ≡ length items → length new ≡ length items →
    take len (new ++ drop (length new) items) ≡ new
marks_back items new len long same =
    ap (λ rest. take len (new ++ rest)) (drop_all (length new) items (omega (arith, same)))
    ∙ ap (take len) (append-nil new)
    ∙ take_all len new (omega (arith, long, same))

-- where one may ride, one may board
pub may_board : (feed : FeedRows) (query : Query) (sought : Seeking) (stand : Stand) → query.from ≡ sought.scope.from →
    query.rides ≡ sought.scope.rides → AreMarks feed sought → MayRide feed query stand → MayBoard feed query sought.marks stand
may_board feed query sought stand from rides marks may = record {
  some = may.some;
  marked = λ stop way is.
      let some = may.some in
      ⊎_elim
      (λ (few : query.rides < 2).
      let one = may.one (omega (arith, some, few)) in
      marks.first query from one.0 (subst (λ s. IsTrue (stands_for feed s one.0)) from one.1) stop way
      (subst (λ s. way_to feed query s stop ≡ Some way) one.2 is))
      (λ (more : 2 ≤ query.rides). marks.all (omega (arith, more, rides)) stop.0)
      (cases_lt query.rides 2);
}
