-- What a search for an answer needn't look at: rides that arrive too late, and labels that end no better than what is found.
use Rattle.std.proofs.Common.{◌≡◌, refl, sym, ◌∙◌, ap, subst, ℕ, zero, suc, ◌+◌, ◌<◌, ◌≤◌, ◌⊎◌, inl, inr, ⊎_elim, Bool, true, false, List, arith, ℤ, pos, ◌-◌, ◌+ℤ◌, ◌-ℤ◌, ◌≤ℤ◌, ◌<ℤ◌}
use Rattle.std.specs.Prelude.{◌==◌, Contains, Option, Some, None, int_le, is_some, slice_get}
use Rattle.std.specs.List.{list_any}
use Rattle.std.proofs.lemmas.List.Folds.{list_any-from_Any}
use Rattle.std.proofs.lemmas.Bool.{both_ways, cases_lt}
use Rattle.std.proofs.lemmas.Int.{ints}
use Rattle.std.proofs.lemmas.Option.{none-some, same_Some}
use Rattle.transit_base.specs.declared.moments.Moment.{Moment}
use Rattle.transit_base.specs.declared.moments.Secs.{Secs}
use Rattle.feed_rows.specs.declared.fares.Triple.{Triple}
use Rattle.feed_rows.specs.declared.journeys.RideFacts.{RideFacts}
use Rattle.feed_rows.specs.SoundFeed.{IsSoundFeed}
use Rattle.feed_laws.proofs.RideLaws.{ride_facts_timed}
use Rattle.feed_laws.proofs.SoundTrips.{sound_trip}
use Rattle.transit_base.specs.Limits.{most_time}
use Rattle.plain_laws.proofs.Laws.{int_le-true}
use Rattle.plan_rides.specs.Cutoffs.{cutoff_by, is_early, is_span, is_span_any}
use Rattle.plan_rides.specs.InTime.{IsWithinWindow, deadline}
use Rattle.plan_rides.specs.Spans.{AreSpans, SpanLists, no_spans, stands_of}
use Rattle.search_laws.specs.Ways.{LeadsBy}
use Rattle.round_terms.specs.declared.finals.Final.{Final}
use Rattle.round_terms.specs.declared.tariff.LeastPrice.{LeastPrice}
use Rattle.round_terms.specs.Costs.{AreLate, CostOn, IsDearer, IsLateIf, LeadsOn}
use Rattle.round_search.specs.Bounds.{AreFoundBy, AreUntils, CostBy, DepartsAfter, IsAnyRide, IsCutAfter, IsFair, IsFoundUntil, IsUntil, IsUntilBy, IsUntilFirst}
use Rattle.round_search.specs.Cuts.{IsFoundBy, Lacks, has_ahead, is_cut, is_within}
use Rattle.round_search.specs.Searches.{StepsTo}
use Rattle.round_terms.specs.Steps.{ways}
use Rattle.round_terms.specs.Tasks.{Asked, HasLaws, Task, task_of}
use Rattle.round_terms.specs.Terms.{Facts, Terms}
use Rattle.round_search.proofs.CutLaws.{cuts}
use Rattle.round_search.proofs.FoundLaws.{HasFoundAhead, ahead_passes, ahead_tells, found_ahead, found_up, futile_lacks}
use Rattle.round_search.proofs.SpanLaws.{leads_early, leads_few, leads_in_time, overdue}

-- (what stands in a list doesn't hang on these)
abbrev pub no_triple : Triple
no_triple = record { arrival = record { 0 = pos 0 }; rides = 0; price = record { 0 = pos 0 } }

abbrev pub no_final : Final
no_final = record { triple = no_triple; label = 0; last = record { 0 = 0 } }

either : (y z : ℤ) → (y ≤ℤ z) ⊎ (z <ℤ y)
either y z = by (int_le y z) refl
  where
    after : int_le y z ≡ false → z <ℤ y
    after is = grind (arith, ints, is)

    by : (t : Bool) → int_le y z ≡ t → (y ≤ℤ z) ⊎ (z <ℤ y)
    by true is = inl (int_le-true y z is)
    by false is = inr (after is)

-- no moment is too late where there are no spans
never_late : (more stop : ℕ) (until at : ℤ) (lists : SpanLists) → lists ≡ no_spans → is_early (cutoff_by (stands_of lists more) until) stop at ≡ true
unfolding is_span_any
never_late more stop until at lists none = rw none refl

-- there is none where none is said to be
pub none_of : {X : Type 0} (o : Option X) → is_some o ≡ false → o ≡ None
none_of None none = refl
none_of (Some x) none = absurd (let never : true ≡ false = none in cc)

pub pred_suc : (n : ℕ) → (n ≡ 0 → ⊥) → suc (n - 1) ≡ n
pred_suc zero nz = absurd (nz refl)
pred_suc (suc n) nz = omega arith

-- what a tariff promises of prices holds of the search that it serves
pub costs_of : {S F M : Type 0} (at_most : F → F → Bool) (terms : S → Terms F M) (Serves : Asked S → Type 0) (tariff : S) (me : Asked S)
    (a : Facts F) (late : Bool) (n : ℕ) (price : Option LeastPrice) → me.tariff ≡ tariff →
    ((asked : Asked S) → asked.tariff ≡ tariff → Serves asked → IsWithinWindow asked.query a.arrival → a.rides + n < asked.query.rides →
    CostOn (task_of at_most terms asked) (IsLateIf (terms tariff) a late) n a price) →
    Serves me → IsWithinWindow me.query a.arrival → a.rides + n < me.query.rides →
    CostOn (task_of at_most terms me) (IsLateIf (terms me.tariff) a late) n a price
costs_of {S} at_most terms Serves tariff me a late n price own clause serves within few =
    subst (λ (s : S). CostOn (task_of at_most terms me) (IsLateIf (terms s) a late) n a price) (sym own) (clause me own serves within few)

-- no triple is dearer than no price
pub none_dearer : (price : Option LeastPrice) (triple : Triple) → price ≡ None → IsDearer price triple → ⊥
none_dearer price triple none dearer = none-some dearer.least (sym none ∙ dearer.is)

module _ {F M : Type 0} (task : Task F M) where
  -- each further ride counts
  pub leads_rides : (n : ℕ) (a : Facts F) (triple : Triple) → LeadsBy (ways task) n a triple → triple.rides ≡ a.rides + n
  leads_rides zero a triple leads = let is = leads.1.rides in omega (arith, is)
  leads_rides (suc n) a triple leads =
      let rest = leads_rides n leads.2 triple leads.4 in
      let next = ap (λ (x : Facts F). x.rides) leads.3.next in
      omega (arith, rest, next)

  -- what no journey by one more ride costs less than
  pub costs_more : (n : ℕ) (a : Facts F) (price : Option LeastPrice) → CostOn task (IsLateIf task.terms a false) n a price → CostBy task (suc n) a price
  costs_more n a price costs triple leads =
      costs triple (leads.0, leads.1, leads.2, leads.3, (λ asked. absurd (let never : false ≡ true = asked in cc)), leads.4)

  -- ---- rides that arrive too late

  -- the cutoff by such a moment is fair
  pub fair_by : (lists : SpanLists) (finals : List Final) (a : Facts F) (Part : RideFacts → Type 0) (until : ℤ) (more : ℕ) → IsSoundFeed task.feed →
      AreSpans task.feed task.query lists → (task.whole ≡ true → lists ≡ no_spans) → IsWithinWindow task.query a.arrival →
      IsUntil task finals a Part until → a.rides + 1 + more ≡ task.query.rides →
      IsFair task finals a Part (cutoff_by (stands_of lists more) until)
  fair_by lists finals a Part until more sound are none within is left b to part late = by task.whole refl
    where
      late_leads : task.loose ≡ false → (n : ℕ) (triple : Triple) → LeadsBy (ways task) n b triple → IsFoundBy task finals triple
      late_leads strict n triple leads =
          ⊎_elim
          (λ in_time. absurd (overdue task lists until more a b to.0 to.1 (omega (arith, left)) sound are within to.2 late n triple in_time leads))
          (is.later strict b to part n triple leads) (either triple.arrival.0 until)

      by : (w : Bool) → task.whole ≡ w → Lacks task finals b
      by false lean = futile_lacks task finals b lean late_leads
      by true whole =
          absurd (both_ways (is_early (cutoff_by (stands_of lists more) until) to.2.facts.to.0 to.2.facts.arrival.0) late
          (never_late more to.2.facts.to.0 until to.2.facts.arrival.0 lists (none whole)))

  -- ---- until when rides may arrive

  module _ (finals : List Final) (a : Facts F) (Part : RideFacts → Type 0) where
    -- until the deadline
    pub until_deadline : (until : ℤ) → until ≡ deadline task.query → IsUntil task finals a Part until
    until_deadline until is = record {
      within = omega (arith, ints, is);
      later = λ strict b to part n triple leads after.
          let in_time = leads_in_time task n b triple leads in
          absurd (omega (arith, ints, is, after, in_time));
    }

    -- or until a later moment of the window
    pub until_later : (until later : ℤ) → IsUntil task finals a Part until → until ≤ℤ later → later ≤ℤ deadline task.query →
        IsUntil task finals a Part later
    until_later until later is before within = record {
      within = within;
      later = λ strict b to part n triple leads after. is.later strict b to part n triple leads (omega (arith, ints, before, after));
    }

    -- and in a loose search until an earlier one
    pub until_before : (old new : Moment) → IsUntil task finals a Part old.0 → new.0 ≤ℤ old.0 → (task.loose ≡ false → new ≡ old) →
        IsUntil task finals a Part new.0
    until_before old new is before same = record {
      within = let within = is.within in omega (arith, ints, before, within);
      later = λ strict b to part n triple leads after.
          is.later strict b to part n triple leads (subst (λ (m : Moment). m.0 <ℤ triple.arrival.0) (same strict) after);
    }

    -- what is so for all rides is so for some
    pub until_some : (until : ℤ) → IsUntil task finals a IsAnyRide until → IsUntil task finals a Part until
    until_some until is = record {
      within = is.within;
      later = λ strict b to part n triple leads after. is.later strict b to tt n triple leads after;
    }

    -- and where the rides of one part are of another
    pub until_part : (More : RideFacts → Type 0) (until : ℤ) →
        ((b : Facts F) (to : StepsTo task a b) → Part to.2.facts → More to.2.facts) →
        IsUntil task finals a More until → IsUntil task finals a Part until
    until_part More until each is = record {
      within = is.within;
      later = λ strict b to part n triple leads after. is.later strict b to (each b to part) n triple leads after;
    }

    -- ---- where a ride and so many more are taken

    -- any moment of the window, where no journey goes on so
    pub by_none : (n : ℕ) (until : ℤ) → until ≤ℤ deadline task.query → ((triple : Triple) → LeadsOn task Part n a triple → ⊥) →
        IsUntilBy task finals Part n a until
    by_none n until within none = record { within = within; later = λ triple leads after. absurd (none triple leads) }

    -- a journey that goes on by a ride and so many more goes on by one more
    pub leads_more : (n : ℕ) (triple : Triple) → LeadsOn task Part n a triple → LeadsBy (ways task) (suc n) a triple
    leads_more n triple leads = (leads.0, leads.1, leads.2, leads.3, leads.5)

    -- the first arrival of what is found, with no more rides and for no more than they cost
    pub by_found : (n rides : ℕ) (price : LeastPrice) (until first : Moment) → rides ≡ a.rides + n + 1 → until.0 ≡ deadline task.query →
        CostOn task Part n a (Some price) → IsFoundUntil task finals rides price.0 until first → IsUntilBy task finals Part n a first.0
    by_found n rides price until first sum last costs is = record {
      within = let before = is.before in omega (arith, ints, before, last);
      later = λ triple leads after. ⊎_elim
          (λ same.
          let in_time = leads_in_time task (suc n) a triple (leads_more n triple leads) in
          absurd (never first.0 until.0 triple.arrival.0 (deadline task.query) (ap (λ (m : Moment). m.0) same) last after in_time))
          (λ some. found_up task finals some.0 triple
          (ahead_passes triple.arrival.0 triple.rides triple.price.0 some.0 (record {
            arrival = sooner first.0 some.0.arrival.0 triple.arrival.0 (ap (λ (m : Moment). m.0) some.2) after;
            few = fewer some.0.rides triple.rides some.3 (leads_rides (suc n) a triple (leads_more n triple leads));
            cheap =
                let dearer = costs triple leads in
                cheaper some.0.price.0 price.0 dearer.least.0 triple.price.0 some.4 (ap (λ (p : LeastPrice). p.0) (same_Some _ _ dearer.is)) dearer.below;
          })) some.1)
          is.is;
    }
      where
        never : (f u t d : ℤ) → f ≡ u → u ≡ d → f <ℤ t → t ≤ℤ d → ⊥
        never f u t d same end after in_time = omega (arith, ints, same, end, after, in_time)

        sooner : (f s t : ℤ) → f ≡ s → f <ℤ t → s ≤ℤ t
        sooner f s t same after = omega (arith, ints, same, after)

        fewer : (m t : ℕ) → m ≤ rides → t ≡ a.rides + suc n → m ≤ t
        fewer m t p q = omega (arith, p, q, sum)

        cheaper : (y z z' t : ℤ) → y ≤ℤ z → z ≡ z' → z' ≤ℤ t → y ≤ℤ t
        cheaper y z z' t p e q = omega (arith, ints, p, e, q)

    by_later : (n : ℕ) (until later : ℤ) → IsUntilBy task finals Part n a until → until ≤ℤ later → later ≤ℤ deadline task.query →
        IsUntilBy task finals Part n a later
    by_later n until later is before within = record {
      within = within;
      later = λ triple leads after. is.later triple leads (omega (arith, ints, before, after));
    }

    -- the later of the moments for fewer rides and of that for one number more
    pub until_more : (n : ℕ) (old by new : Moment) → IsUntilFirst task finals Part n a old.0 → IsUntilBy task finals Part n a by.0 →
        old.0 ≤ℤ new.0 → by.0 ≤ℤ new.0 → (new ≡ old) ⊎ (new ≡ by) → IsUntilFirst task finals Part (n + 1) a new.0
    until_more n old by new was is after_old after_by one = record {
      within = in_window;
      first = λ m lt. ⊎_elim (λ less. by_later m old.0 new.0 (was.first m less) after_old in_window)
          (λ same. by_later m by.0 new.0 (subst (λ (k : ℕ). IsUntilBy task finals Part k a by.0) (sym same) is) after_by in_window)
          (cases_of m lt);
    }
      where
        in_window : new.0 ≤ℤ deadline task.query
        in_window = ⊎_elim (λ same. subst (λ (m : Moment). m.0 ≤ℤ deadline task.query) (sym same) was.within)
            (λ same. subst (λ (m : Moment). m.0 ≤ℤ deadline task.query) (sym same) is.within) one

        cases_of : (m : ℕ) → m < n + 1 → (m < n) ⊎ (m ≡ n)
        cases_of m lt = ⊎_elim inl (λ ge. inr (omega (arith, lt, ge))) (cases_lt m n)

    -- no more rides follow than the limit allows
    pub until_all : (n : ℕ) (until : ℤ) → IsUntilFirst task finals Part n a until → task.query.rides ≤ a.rides + n →
        IsUntil task finals a Part until
    until_all n until are left = record {
      within = are.within;
      later = λ strict b to part m triple leads after.
          let fits = leads_few task (suc m) a triple (to.0, to.1, b, to.2, leads) in
          (are.first m (⊎_elim (λ none. absurd (omega (arith, none))) (λ le. omega (arith, le, left)) fits)).later triple
          (to.0, to.1, b, to.2, part, leads) after;
    }

  -- the earlier of a moment and of the arrival of one thing more that is found
  pub found_sooner : (finals : List Final) (rides : ℕ) (price : ℤ) (until old new : Moment) (found : Triple) →
      IsFoundUntil task finals rides price until old → IsFoundBy task finals found → new.0 ≤ℤ old.0 →
      (new ≡ old) ⊎ ((new ≡ found.arrival) × (found.rides ≤ rides) × (found.price.0 ≤ℤ price)) →
      IsFoundUntil task finals rides price until new
  found_sooner finals rides price until old new found was is before (inl same) =
      subst (IsFoundUntil task finals rides price until) (sym same) was
  found_sooner finals rides price until old new found was is before (inr sooner) = record {
    before = let earlier = was.before in omega (arith, ints, earlier, before);
    is = inr (found, is, sooner.0, sooner.1, sooner.2);
  }

  -- ---- labels that end no better

  module _ (lists : SpanLists) (finals : List Final) (a : Facts F) (n : ℕ) (sound : IsSoundFeed task.feed)
      (are : AreSpans task.feed task.query lists) (ridden : (a.rides == 0) ≡ false) (within : IsWithinWindow task.query a.arrival) where
    early : (triple : Triple) → LeadsBy (ways task) n a triple →
        is_early (cutoff_by (stands_of lists n) triple.arrival.0) a.stop.0 a.arrival ≡ true
    early triple leads = leads_early task lists sound are n a ridden within n (omega arith) triple leads

    -- where no journey ends in time there are none
    pub leads_not : slice_get (stands_of lists n) a.stop.0 ≡ Some None → (triple : Triple) → LeadsBy (ways task) n a triple → ⊥
    unfolding is_span_any is_span
    leads_not none triple leads =
        both_ways (is_early (cutoff_by (stands_of lists n) triple.arrival.0) a.stop.0 a.arrival) (rw none refl) (early triple leads)

    -- so all is found
    pub found_none : slice_get (stands_of lists n) a.stop.0 ≡ Some None → AreFoundBy task finals n a
    found_none none triple leads = absurd (leads_not none triple leads)

    -- and where something is found as early as any of it, with as few rides and for as little
    pub found_early : (span : Secs) (rides : ℕ) (price : LeastPrice) → slice_get (stands_of lists n) a.stop.0 ≡ Some (Some span) →
        rides ≡ a.rides + n → CostBy task n a (Some price) →
        has_ahead task finals (a.arrival +ℤ pos span.0) rides price.0 ≡ true → AreFoundBy task finals n a
    unfolding is_span_any is_span
    found_early span rides price at sum costs ahead triple leads =
        let found = found_ahead task finals (a.arrival +ℤ pos span.0) rides price.0 ahead in
        let tells = ahead_tells (a.arrival +ℤ pos span.0) rides price.0 found.triple found.ahead in
        let ends : int_le (pos span.0) (triple.arrival.0 -ℤ a.arrival) ≡ true =
        subst (λ o. is_span_any o (triple.arrival.0 -ℤ a.arrival) ≡ true) at (early triple leads) in
        let dearer = costs triple leads in
        found_up task finals found.triple triple
        (ahead_passes triple.arrival.0 triple.rides triple.price.0 found.triple (record {
          arrival = later found.triple.arrival.0 a.arrival (pos span.0) triple.arrival.0 tells.arrival (int_le-true _ _ ends);
          few = fewer found.triple.rides triple.rides tells.few (leads_rides n a triple leads);
          cheap = cheaper found.triple.price.0 price.0 dearer.least.0 triple.price.0 tells.cheap (ap (λ (p : LeastPrice). p.0) (same_Some _ _ dearer.is)) dearer.below;
        })) found.found
      where
        later : (y at s t : ℤ) → y ≤ℤ (at +ℤ s) → s ≤ℤ (t -ℤ at) → y ≤ℤ t
        later y at s t p q = omega (arith, ints, p, q)

        fewer : (m t : ℕ) → m ≤ rides → t ≡ a.rides + n → m ≤ t
        fewer m t p q = omega (arith, p, q, sum)

        cheaper : (y z z' t : ℤ) → y ≤ℤ z → z ≡ z' → z' ≤ℤ t → y ≤ℤ t
        cheaper y z z' t p e q = omega (arith, ints, p, e, q)

  -- where all is found by each number of further rides that the limit allows, the facts may be lacking
  pub useless_all : (finals : List Final) (a : Facts F) (n : ℕ) → task.whole ≡ false → task.query.rides < a.rides + n → 0 < n →
      ((m : ℕ) → m < n → AreFoundBy task finals m a) → Lacks task finals a
  useless_all finals a n lean left some all =
      futile_lacks task finals a lean (λ strict m triple leads.
      all m (⊎_elim (λ none. omega (arith, none, some)) (λ le. omega (arith, le, left)) (leads_few task m a triple leads)) triple leads)

  -- ---- rides behind which all is cut off

  -- no ride arrives in time after the deadline
  pub cut_deadline : (finals : List Final) (a : Facts F) (after : ℤ) → after ≡ deadline task.query → IsCutAfter task finals a after
  cut_deadline finals a after is at late within = absurd (omega (arith, ints, is, late, within))

  -- nor is anything new behind a final that is ahead of such facts
  pub cut_sooner : (finals : List Final) (a : Facts F) (final : Final) (price : ℤ) (old new : Moment) →
      IsCutAfter task finals a old.0 → Contains finals final → price ≡ task.terms.least a →
      (new ≡ old) ⊎ ((new ≡ final.triple.arrival) × (final.triple.rides ≤ a.rides + 1) × (final.triple.price.0 ≤ℤ price)) →
      IsCutAfter task finals a new.0
  cut_sooner finals a final price old new was among is (inl same) = subst (λ (m : Moment). IsCutAfter task finals a m.0) (sym same) was
  cut_sooner finals a final price old new was among is (inr sooner) = λ at late within.
      let test = λ (f : Final). is_within at (a.rides + 1) (task.terms.least a) f.triple in
      let before = subst (λ (m : Moment). m.0 <ℤ at) sooner.0 late in
      let ahead = ahead_passes at (a.rides + 1) (task.terms.least a) final.triple (record {
        arrival = omega (arith, ints, before);
        few = sooner.1;
        cheap = subst (λ (z : ℤ). final.triple.price.0 ≤ℤ z) is sooner.2;
      }) in
      let any : list_any test finals ≡ true = list_any-from_Any test finals (among.0, final, among.1, among.2, ahead) in
      rw any refl

module _ {F M : Type 0} (task : Task F M) (laws : HasLaws task) (sound : IsSoundFeed task.feed) (finals : List Final) (a : Facts F) where
  -- a ride of a step departs by the deadline
  departs_by : (b : Facts F) (to : StepsTo task a b) → to.2.facts.departure.0 ≤ℤ deadline task.query
  departs_by b to =
      let facts = to.2.facts in
      let timed = ride_facts_timed task.feed to.0 facts most_time (sound_trip task.feed to.0.trip sound) to.2.rides.is in
      onward facts.departure.0 facts.arrival.0 (deadline task.query) timed.forward to.2.rides.in_time
    where
      onward : (x y z : ℤ) → x ≤ℤ y → y ≤ℤ z → x ≤ℤ z
      onward x y z p q = omega (arith, ints, p, q)

  -- what is so for late rides is so for those that depart later than a moment past which rides are late
  pub until_late : (since until : ℤ) → AreLate task.terms a since (deadline task.query) → IsUntil task finals a (IsLateIf task.terms a true) until →
      IsUntil task finals a (DepartsAfter since) until
  until_late since until late is =
      until_part task finals a (DepartsAfter since) (IsLateIf task.terms a true) until
      (λ b to departs asked. late to.2.facts departs (departs_by b to)) is

  -- and for all rides, where late ones aren't asked for
  pub until_any : (until : ℤ) → IsUntil task finals a (IsLateIf task.terms a false) until → IsUntil task finals a IsAnyRide until
  until_any until is =
      until_part task finals a IsAnyRide (IsLateIf task.terms a false) until
      (λ b to any asked. absurd (let never : false ≡ true = asked in cc)) is

  -- where facts are cut off, all that they lead to is found
  pub untils_cut : is_cut task finals a ≡ true → (until : Moment) → until.0 ≤ℤ deadline task.query →
      AreUntils task finals a (record { all = until; since = until; late = until })
  untils_cut cut until within = record { all = each IsAnyRide; late = each (DepartsAfter until.0) }
    where
      ahead : HasFoundAhead task finals a.arrival a.rides (task.terms.least a)
      ahead = found_ahead task finals a.arrival a.rides (task.terms.least a) cut

      each : (Part : RideFacts → Type 0) → IsUntil task finals a Part until.0
      each Part = record {
        within = within;
        later = λ strict b to part n triple leads after.
            found_up task finals ahead.triple triple
            ((cuts task laws sound).leads ahead.triple (suc n) a triple ahead.ahead (to.0, to.1, b, to.2, leads)) ahead.found;
      }
