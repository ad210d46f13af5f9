-- The positions that a traveller gets to, and how lists of them grow.
use Rattle.std.proofs.Common.{◌≡◌, refl, sym, ◌∙◌, ap, subst, ℕ, ◌+◌, ◌<◌, ◌≤◌, ◌⊎◌, inl, inr, ⊎_elim, false, List, [], ◌∷◌, ◌++◌, length, get_or, arith, ℤ, pos, ◌+ℤ◌, ◌≤ℤ◌}
use Rattle.std.specs.Prelude.{Some, None, slice_get, Contains}
use Rattle.std.proofs.lemmas.Bool.{cases_lt}
use Rattle.std.proofs.lemmas.List.Elements.{Contains-append_left, Contains-push, Contains-push_cases}
use Rattle.std.proofs.lemmas.Option.{same_Some, none-some, slice_get-get_or}
use Rattle.transit_base.specs.declared.numbers.StopId.{StopId}
use Rattle.feed_rows.specs.declared.journeys.Ride.{Ride}
use Rattle.feed_rows.specs.declared.journeys.RideFacts.{RideFacts}
use Rattle.feed_rows.specs.JourneyStands.{Stand, way_to}
use Rattle.feed_rows.specs.SoundFeed.{IsSoundFeed}
use Rattle.feed_walks.specs.OutOf.{out_of}
use Rattle.feed_walks.specs.declared.steps.Step.{Step}
use Rattle.plan_rides.specs.declared.positions.Reached.{Reached}
use Rattle.plan_rides.specs.declared.servings.TimedServing.{TimedServing}
use Rattle.plan_rides.specs.Boarding.{MayBoard, Seeking}
use Rattle.plan_rides.specs.Scopes.{IsInScope}
use Rattle.plan_patterns.specs.declared.span.Span.{Span}
use Rattle.plan_rides.specs.Cutoffs.{CutoffOf, is_early}
use Rattle.plan_rides.specs.Departures.{BoardsAt, TakesServing}
use Rattle.plan_rides.specs.InTime.{IsWithinWindow, next_in_time}
use Rattle.plan_rides.specs.Reached.{AddsReached, IsAny, IsReachedFrom, IsReachedIn, Positioned}
use Rattle.plan_rides.specs.Served.{AreTimed, IsTimed, TakesTimed, is_open}
use Rattle.plan_rides.specs.Travelling.{IsBarred, BoardsNear}
use Rattle.plan_rides.proofs.CaughtLaws.{caught_ride, caught_spanned, in_walks, stop_id, walk_or_own}
use Rattle.plan_rides.proofs.DepartureLaws.{ride_stop}
use Rattle.plan_rides.proofs.ServedLaws.{never_closed, never_late, timed_step}

module _ (me : Positioned) (lasts : CutoffOf) (stand : Stand) (number : ℕ) where
  still_in : (old new : List Reached) (ride : Ride) → ((reached : Reached) → Contains old reached → Contains new reached) →
      IsReachedIn me old number ride → IsReachedIn me new number ride
  still_in old new ride still is = (is.0, still is.0 is.1, is.2, is.3)

  -- one part after another
  pub reached_more : (Part More Whole : Ride → Type 0) (old mid new : List Reached) →
      AddsReached me lasts stand number Part old mid → AddsReached me lasts stand number More mid new →
      ((ride : Ride) (next : Stand) → next_in_time me.feed me.query stand ride ≡ Some next → Whole ride → Part ride ⊎ More ride) →
      AddsReached me lasts stand number Whole old new
  reached_more Part More Whole old mid new a b split = record {
    still = λ x at. b.still x (a.still x at);
    all = λ latest last ride next e early whole.
        ⊎_elim (λ p. still_in mid new ride b.still (a.all latest last ride next e early p))
        (λ m. b.all latest last ride next e early m) (split ride next e whole);
    right = λ x at. ⊎_elim (λ within. a.right x within) (λ own. inr own) (b.right x at);
  }

  -- the same part, said otherwise
  pub reached_same : (Part Whole : Ride → Type 0) (old new : List Reached) → AddsReached me lasts stand number Part old new →
      ((ride : Ride) (next : Stand) → next_in_time me.feed me.query stand ride ≡ Some next → Whole ride → Part ride) →
      AddsReached me lasts stand number Whole old new
  reached_same Part Whole old new a part = record {
    still = a.still;
    all = λ latest last ride next e early whole. a.all latest last ride next e early (part ride next e whole);
    right = a.right;
  }

  -- a part of which no ride is caught
  pub reached_none : (Whole : Ride → Type 0) (list : List Reached) →
      ((ride : Ride) (next : Stand) → next_in_time me.feed me.query stand ride ≡ Some next → Whole ride → ⊥) →
      AddsReached me lasts stand number Whole list list
  reached_none Whole list never = record {
    still = λ x at. at;
    all = λ latest last ride next e early whole. absurd (never ride next e whole);
    right = λ x at. inl at;
  }

  -- a stop to which there is no way has no position
  pub reach_no_way : (stop : StopId) (list : List Reached) → way_to me.feed me.query stand stop ≡ None →
      AddsReached me lasts stand number (BoardsAt me.feed stop.0) list list
  reach_no_way stop list none =
      reached_none (BoardsAt me.feed stop.0) list
      (λ ride next e boards.
      let c = caught_ride me.feed me.query stand ride next e in
      let from : c.facts.from.0 ≡ stop.0 = ap (λ (f : RideFacts). f.from.0) (same_Some _ _ (sym c.is ∙ boards.is)) ∙ boards.at in
      none-some c.way (sym none ∙ ap (way_to me.feed me.query stand) (sym (ap stop_id from)) ∙ c.way_is))

  -- nor has one at which the traveller is too late
  pub reach_late : (stop : StopId) (way : ℕ) (earliest : ℤ) (list : List Reached) → IsWithinWindow me.query stand.at →
      way_to me.feed me.query stand stop ≡ Some way → earliest ≡ stand.at +ℤ pos way → is_early lasts stop.0 earliest ≡ false →
      AddsReached me lasts stand number (BoardsAt me.feed stop.0) list list
  reach_late stop way earliest list within way_is at late = record {
    still = λ x has. has;
    all = λ latest last ride next e early boards. absurd
        (never_late me.feed me.query latest lasts stand stop way earliest ride next within last way_is at late e early boards);
    right = λ x has. inl has;
  }

  -- ---- the positions of a stop

  -- before the first
  pub reach_untimed : (served : List TimedServing) (list : List Reached) →
      AddsReached me lasts stand number (TakesTimed me.patterns served 0) list list
  reach_untimed served list =
      reached_none (TakesTimed me.patterns served 0) list (λ ride next e takes. let below = takes.1 in omega (arith, below))

  -- one more that is open
  pub reach_open : (served : List TimedServing) (k : ℕ) (x : TimedServing) (reached : Reached) (old mid new : List Reached) →
      k < length served → reached.serving ≡ (get_or served k x).serving → reached.number ≡ number →
      IsReachedFrom me stand reached → new ≡ mid ++ reached ∷ [] →
      AddsReached me lasts stand number (TakesTimed me.patterns served k) old mid →
      AddsReached me lasts stand number (TakesTimed me.patterns served (k + 1)) old new
  reach_open served k x reached old mid new lt serving numbered is pushed before =
      subst (AddsReached me lasts stand number (TakesTimed me.patterns served (k + 1)) old) (sym pushed) (record {
        still = λ y at. Contains-append_left mid (reached ∷ []) y (before.still y at);
        all = λ latest last ride next e early takes. ⊎_elim
            (λ lower. still_in mid (mid ++ reached ∷ []) ride (λ y at. Contains-append_left mid (reached ∷ []) y at)
            (before.all latest last ride next e early lower))
            (λ here. (reached, Contains-push mid reached, numbered, subst (λ s. TakesServing me.patterns s ride) (sym serving) here))
            (timed_step me.patterns served k x ride lt takes);
        right = λ y at. ⊎_elim (λ within. before.right y within)
            (λ own. inr (subst (λ (r : Reached). (r.number ≡ number) × IsReachedFrom me stand r) own (numbered, is)))
            (Contains-push_cases mid reached y at);
      })

  -- one more that may be passed over
  pub reach_closed : (span : Span) (stop : StopId) (way : ℕ) (earliest : ℤ) (served : List TimedServing) (k : ℕ) (x : TimedServing)
      (old new : List Reached) → k < length served → span.from.0 ≤ℤ me.query.departure.0 → IsWithinWindow me.query stand.at →
      way_to me.feed me.query stand stop ≡ Some way → earliest ≡ stand.at +ℤ pos way →
      IsTimed me.feed span me.patterns stop.0 (get_or served k x) →
      is_open (get_or served k x) earliest lasts stop.0 ≡ false →
      AddsReached me lasts stand number (TakesTimed me.patterns served k) old new →
      AddsReached me lasts stand number (TakesTimed me.patterns served (k + 1)) old new
  reach_closed span stop way earliest served k x old new lt begins within way_is at timed closed before = record {
    still = before.still;
    all = λ latest last ride next e early takes. ⊎_elim
        (λ lower. before.all latest last ride next e early lower)
        (λ here. absurd (never_closed me.feed me.query span latest lasts stand stop way earliest me.patterns (get_or served k x) ride
        next begins within last way_is at timed closed e early here))
        (timed_step me.patterns served k x ride lt takes);
    right = before.right;
  }

  -- all of them
  pub reach_stop : (sought : Seeking) (stop n : ℕ) (served : List TimedServing) (old new : List Reached) →
      IsInScope sought.scope me.query → IsWithinWindow me.query stand.at → MayBoard me.feed me.query sought.marks stand →
      AreTimed me.feed sought me.patterns stop served → length served ≤ n →
      AddsReached me lasts stand number (TakesTimed me.patterns served n) old new →
      AddsReached me lasts stand number (BoardsAt me.feed stop) old new
  reach_stop sought stop n served old new inside within board timed whole adds =
      reached_same (TakesTimed me.patterns served n) (BoardsAt me.feed stop) old new adds
      (λ ride next e boards.
      let c = caught_ride me.feed me.query stand ride next e in
      let from : c.facts.from.0 ≡ stop = ap (λ (f : RideFacts). f.from.0) (same_Some _ _ (sym c.is ∙ boards.is)) ∙ boards.at in
      let spanned = caught_spanned me.feed me.query sought stand ride next inside within board c in
      let takes = timed.all ride c.facts spanned from in
      let lt = takes.1 in
      (takes.0, omega (arith, lt, whole), takes.2, takes.3, takes.4))

  -- ---- the stops that are near

  pub reach_barred : (old new : List Reached) → AddsReached me lasts stand number (BoardsAt me.feed stand.stop.0) old new →
      AddsReached me lasts stand number (IsBarred me.feed stand) old new
  reach_barred old new adds =
      reached_same (BoardsAt me.feed stand.stop.0) (IsBarred me.feed stand) old new adds (λ ride next e barred. barred.1)

  -- one walk more
  pub reach_walk : (walks : List Step) (k : ℕ) (x : Step) (old mid new : List Reached) → k < length walks →
      AddsReached me lasts stand number (BoardsNear me.feed stand walks k) old mid →
      AddsReached me lasts stand number (BoardsAt me.feed (get_or walks k x).to.0) mid new →
      AddsReached me lasts stand number (BoardsNear me.feed stand walks (k + 1)) old new
  reach_walk walks k x old mid new lt before adds =
      reached_more (BoardsNear me.feed stand walks k) (BoardsAt me.feed (get_or walks k x).to.0)
      (BoardsNear me.feed stand walks (k + 1)) old mid new before adds
      (λ ride next e near. ⊎_elim (λ barred. inl (inl barred)) (λ among. walk ride among.0 among.1 among.2 among.3 among.4) near)
    where
      walk : (ride : Ride) (i : ℕ) → i < k + 1 → (step : Step) → slice_get walks i ≡ Some step → BoardsAt me.feed step.to.0 ride →
          BoardsNear me.feed stand walks k ride ⊎ BoardsAt me.feed (get_or walks k x).to.0 ride
      walk ride i below step got boards = ⊎_elim
          (λ (lower : i < k). inl (inr (i, lower, step, got, boards)))
          (λ (upper : k ≤ i).
          let same : i ≡ k = omega arith in
          inr (subst (λ (s : Step). BoardsAt me.feed s.to.0 ride) (same_Some _ _ (sym got ∙ ap (slice_get walks) same ∙ slice_get-get_or walks k x lt)) boards))
          (cases_lt i k)

  -- all walks
  pub reach_all : (walks : List Step) (n : ℕ) (old new : List Reached) → IsSoundFeed me.feed → walks ≡ out_of me.feed stand.stop →
      length walks ≤ n → AddsReached me lasts stand number (BoardsNear me.feed stand walks n) old new →
      AddsReached me lasts stand number IsAny old new
  reach_all walks n old new sound are whole adds =
      reached_same (BoardsNear me.feed stand walks n) IsAny old new adds
      (λ ride next e any.
      let c = caught_ride me.feed me.query stand ride next e in
      let stop : c.facts.from.0 < length me.feed.stops = ride_stop me.feed ride c.facts sound c.is in
      ⊎_elim
      (λ linked.
      let step : Step = record { to = c.facts.from; seconds = record { 0 = linked.0 } } in
      let at = subst (λ ws. Contains ws step) (sym are) (in_walks me.feed stand.stop c.facts.from linked.0 stop linked.1) in
      let lt = at.1 in
      inr (at.0, omega (arith, lt, whole), step, slice_get-get_or walks at.0 step lt ∙ ap Some at.2, record { facts = c.facts; is = c.is; at = refl }))
      (λ own. inl (own.1, record { facts = c.facts; is = c.is; at = ap (λ (s : StopId). s.0) own.0 }))
      (walk_or_own me.feed me.query stand c.facts.from c.way c.way_is))

  -- what a list has that began empty
  pub reached_only : (Part : Ride → Type 0) (new : List Reached) → AddsReached me lasts stand number Part [] new → (x : Reached) →
      Contains new x → (x.number ≡ number) × IsReachedFrom me stand x
  reached_only Part new adds x at = ⊎_elim (λ none. let lt = none.1 in absurd (omega (arith, lt))) (λ is. is) (adds.right x at)
