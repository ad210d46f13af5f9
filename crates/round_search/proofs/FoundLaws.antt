-- What is found, by finals or by triples that are given; and what a search may lack for it.
use Rattle.std.proofs.Common.{◌≡◌, refl, sym, subst, ℕ, Bool, true, false, ◌||◌, inl, inr, List, [], ◌∷◌, ◌+◌, arith, ℤ, ◌≤◌, ◌≤ℤ◌}
use Rattle.std.specs.Prelude.{Contains, nat_le}
use Rattle.std.specs.List.{list_any}
use Rattle.std.proofs.lemmas.Bool.{and_parts, both_ways}
use Rattle.std.proofs.lemmas.Bool.Decides.{nat_tests}
use Rattle.std.proofs.lemmas.Int.{ints}
use Rattle.std.proofs.lemmas.List.Folds.{list_any-from_Any}
use Rattle.std.proofs.lemmas.Option.{slice_get_within}
use Rattle.feed_rows.specs.declared.fares.Triple.{Triple}
use Rattle.feed_rows.specs.declared.journeys.Ride.{Ride}
use Rattle.feed_rows.specs.ParetoTriples.{at_most as is_no_worse}
use Rattle.feed_rows.specs.SoundFeed.{IsSoundFeed}
use Rattle.feed_laws.proofs.ParetoLaws.{at_most-refl, at_most-trans}
use Rattle.plain_laws.proofs.Laws.{int_le-true, list_any_tells, slice_get-Contains}
use Rattle.search_laws.specs.Cuts.{IsFutile, MayLack}
use Rattle.search_laws.specs.Stores.{IsUncut}
use Rattle.search_laws.specs.Ways.{IsUpward}
use Rattle.search_laws.proofs.CutLaws.{lack_after, lack_below, lack_futile, lack_more}
use Rattle.round_terms.specs.declared.finals.Final.{Final}
use Rattle.round_terms.specs.declared.label.Label.{Label}
use Rattle.round_search.specs.Cuts.{Cuts, IsFoundBy, Lacks, has_ahead, is_ahead, is_cut, is_given, is_within, least_end}
use Rattle.round_search.specs.Finals.{HasEnds, is_bettered}
use Rattle.round_terms.specs.Labels.{facts_of}
use Rattle.round_search.specs.Searches.{search_of}
use Rattle.round_terms.specs.Steps.{IsStep, ways}
use Rattle.round_terms.specs.Tasks.{HasLaws, Task}
use Rattle.round_terms.specs.Terms.{Covers, Facts, facts_after}
use Rattle.round_search.proofs.CutLaws.{cuts}
use Rattle.round_search.proofs.FinalLaws.{bettered_up}
use Rattle.round_search.proofs.LawfulLaws.{parts_below, ways_lawful}

-- ---- what is found

-- the triple of a final is bettered
pub bettered_itself : (finals : List Final) (final : Final) → Contains finals final → is_bettered finals final.triple
bettered_itself finals final at =
    list_any-from_Any (λ (f : Final). is_no_worse f.triple final.triple) finals
    (at.0, final, at.1, at.2, at_most-refl final.triple)

-- so is one that is given
pub given_itself : (given : List Triple) (triple : Triple) → Contains given triple → is_given given triple
given_itself given triple at =
    list_any-from_Any (λ (t : Triple). is_no_worse t triple) given (at.0, triple, at.1, at.2, at_most-refl triple)

-- what one that is given is at most betters each that this is at most
given_up : (given : List Triple) (s t : Triple) → is_given given s → is_no_worse s t ≡ true → is_given given t
given_up [] s t h le = h
given_up (x ∷ xs) s t h le =
    let rest = given_up xs s t in
    let step = at_most-trans x s t in
    grind (arith, rest, step)

-- what the test tells, and when it passes
pub record Ahead (at : ℤ) (rides : ℕ) (price : ℤ) (triple : Triple) : Type 0 where
  pub arrival : triple.arrival.0 ≤ℤ at
  pub few : triple.rides ≤ rides
  pub cheap : triple.price.0 ≤ℤ price

pub ahead_tells : (at : ℤ) (rides : ℕ) (price : ℤ) (triple : Triple) → is_within at rides price triple ≡ true →
    Ahead at rides price triple
ahead_tells at rides price triple is =
    let all = and_parts _ _ is in
    let both = and_parts _ (nat_le triple.rides rides) all.0 in
    record { arrival = int_le-true _ _ both.0; few = few _ _ both.1; cheap = int_le-true _ _ all.1 }
  where
    few : (m n : ℕ) → nat_le m n ≡ true → m ≤ n
    few m n h = grind (arith, nat_tests)

pub ahead_passes : (at : ℤ) (rides : ℕ) (price : ℤ) (triple : Triple) → Ahead at rides price triple → is_within at rides price triple ≡ true
ahead_passes at rides price triple a =
    parts_below triple (record { arrival = record { 0 = at }; rides = rides; price = record { 0 = price } }) a.arrival a.few a.cheap

module _ {F M : Type 0} (task : Task F M) where
  -- where one triple is found, so is each that it is at most
  pub found_up : (finals : List Final) → IsUpward (ways task) (IsFoundBy task finals)
  found_up finals s t below (inl by_final) = inl (bettered_up finals s t by_final below)
  found_up finals s t below (inr by_given) = inr (given_up task.given s t by_given below)

  -- what is found still is where more is bettered
  pub found_more : (old new : List Final) → ((t : Triple) → is_bettered old t → is_bettered new t) → (t : Triple) →
      IsFoundBy task old t → IsFoundBy task new t
  found_more old new still t (inl by_final) = inl (still t by_final)
  found_more old new still t (inr by_given) = inr by_given

  -- one that is ahead is found
  pub record HasFoundAhead (finals : List Final) (at : ℤ) (rides : ℕ) (price : ℤ) : Type 0 where
    pub triple : Triple
    pub found : IsFoundBy task finals triple
    pub ahead : is_within at rides price triple ≡ true

  pub found_ahead : (finals : List Final) (at : ℤ) (rides : ℕ) (price : ℤ) → has_ahead task finals at rides price ≡ true →
      HasFoundAhead finals at rides price
  found_ahead finals at rides price is = by (is_ahead finals at rides price) refl is
    where
      by : (b : Bool) → is_ahead finals at rides price ≡ b →
          (b || list_any (λ (t : Triple). is_within at rides price t) task.given) ≡ true → HasFoundAhead finals at rides price
      by true some is' =
          let ahead = list_any_tells (λ (f : Final). is_within at rides price f.triple) finals some in
          record { triple = ahead.0.triple; found = inl (bettered_itself finals ahead.0 ahead.1); ahead = ahead.2 }
      by false none is' =
          let ahead = list_any_tells (λ (t : Triple). is_within at rides price t) task.given is' in
          record { triple = ahead.0; found = inr (given_itself task.given ahead.0 ahead.1); ahead = ahead.2 }

  -- where none is ahead no final is
  none_ahead : (finals : List Final) (at : ℤ) (rides : ℕ) (price : ℤ) → has_ahead task finals at rides price ≡ false →
      is_ahead finals at rides price ≡ false
  none_ahead finals at rides price is = by (is_ahead finals at rides price) is
    where
      by : (b : Bool) → (b || list_any (λ (t : Triple). is_within at rides price t) task.given) ≡ false → b ≡ false
      by true wrong = absurd (let never : true ≡ false = wrong in cc)
      by false wrong = refl

  -- facts that aren't cut off are so by no end of labels that the finals have the ends of
  pub uncut_of : (finals : List Final) (labels : List (Label F M)) (x : Label F M) → HasEnds task labels finals →
      is_cut task finals (facts_of x) ≡ false → IsUncut (search_of task) labels x
  uncut_of finals labels x has none y at last t ends cut =
      let k = slice_get-Contains labels y at in
      let better =
      list_any_tells (λ (f : Final). is_no_worse f.triple t) finals
      (has t (k.0, slice_get_within labels k.0 y k.1, y, k.1, (last, ends))) in
      both_ways (is_ahead finals x.arrival.0 x.rides (task.terms.least (facts_of x)))
      (none_ahead finals x.arrival.0 x.rides (task.terms.least (facts_of x)) none)
      (list_any-from_Any (λ (f : Final). is_within x.arrival.0 x.rides (task.terms.least (facts_of x)) f.triple) finals (
        better.1.0,
        better.0,
        better.1.1,
        better.1.2,
        at_most-trans better.0.triple t (least_end task.terms (facts_of x)) better.2 cut,
      ))

-- ---- what may be lacking

module _ {F M : Type 0} (task : Task F M) (laws : HasLaws task) where
  -- what may be lacking may still be where more is bettered
  pub lacks_more : (old new : List Final) → ((t : Triple) → is_bettered old t → is_bettered new t) → (b : Facts F) →
      Lacks task old b → Lacks task new b
  lacks_more old new still b lack strict =
      lack_more (ways task) (Cuts task.terms) task.whole (IsFoundBy task old) (IsFoundBy task new) b (found_more task old new still)
      (lack strict)

  module _ (sound : IsSoundFeed task.feed) (finals : List Final) where
    -- it may be wherever it is covered
    pub lacks_below : (a b : Facts F) → task.terms.IsFare a.rides a.fare → task.terms.IsFare b.rides b.fare → Covers task.at_most a b →
        Lacks task finals a → Lacks task finals b
    lacks_below a b of_a of_b covers lack strict =
        lack_below (ways task) (ways_lawful task laws) (Cuts task.terms) (cuts task laws sound).below (IsFoundBy task finals)
        (found_up task finals) task.whole a b of_a of_b covers (lack strict)

    -- and wherever a step leads from it
    pub lacks_after : (a b : Facts F) (ride : Ride) (move : M) → IsStep task a ride move b → Lacks task finals a → Lacks task finals b
    lacks_after a b ride move step lack strict =
        lack_after (ways task) (ways_lawful task laws) (Cuts task.terms) (cuts task laws sound) (IsFoundBy task finals)
        (found_up task finals) task.whole a b ride move step (lack strict)

    -- what is ahead of facts lets them lack
    pub ahead_lacks : (triple : Triple) (a : Facts F) → IsFoundBy task finals triple →
        is_within a.arrival a.rides (task.terms.least a) triple ≡ true → Lacks task finals a
    ahead_lacks triple a found ahead strict = by task.whole
      where
        by : (whole : Bool) → MayLack (ways task) (Cuts task.terms) whole (IsFoundBy task finals) a
        by true = (triple, found, ahead)
        by false =
            lack_futile (ways task) (ways_lawful task laws) (Cuts task.terms) (cuts task laws sound) (IsFoundBy task finals)
            (found_up task finals) true a (triple, found, ahead)

    -- so facts that are cut off may be lacking
    pub cut_lacks : (a : Facts F) → is_cut task finals a ≡ true → Lacks task finals a
    cut_lacks a is =
        let ahead = found_ahead task finals a.arrival a.rides (task.terms.least a) is in
        ahead_lacks ahead.triple a ahead.found ahead.ahead

    -- so may what a ride leads to, where something ahead of its arrival is found for as little as facts before it can lead to
    pub step_cut : (a b : Facts F) (ride : Ride) (move : M) (step : IsStep task a ride move b) →
        has_ahead task finals step.facts.arrival.0 (a.rides + 1) (task.terms.least a) ≡ true → Lacks task finals b
    step_cut a b ride move step is =
        let ahead = found_ahead task finals step.facts.arrival.0 (a.rides + 1) (task.terms.least a) is in
        let tells = ahead_tells step.facts.arrival.0 (a.rides + 1) (task.terms.least a) ahead.triple ahead.ahead in
        let next = facts_after task.terms a step.facts move in
        let least = laws.fares.least_stays a step.facts move step.rides.few step.fare step.pays in
        subst (Lacks task finals) (sym step.next)
        (ahead_lacks ahead.triple next ahead.found
        (ahead_passes next.arrival next.rides (task.terms.least next) ahead.triple (record {
          arrival = tells.arrival;
          few = tells.few;
          cheap = dearer ahead.triple.price.0 (task.terms.least a) (task.terms.least next) tells.cheap least;
        })))
      where
        dearer : (x y z : ℤ) → x ≤ℤ y → y ≤ℤ z → x ≤ℤ z
        dearer x y z p q = omega (arith, ints, p, q)

-- what is futile may be lacking, where the search needn't be whole
pub futile_lacks : {F M : Type 0} (task : Task F M) (finals : List Final) (b : Facts F) → task.whole ≡ false →
    (task.loose ≡ false → IsFutile (ways task) (IsFoundBy task finals) b) → Lacks task finals b
futile_lacks task finals b lean futile strict =
    subst (λ w. MayLack (ways task) (Cuts task.terms) w (IsFoundBy task finals) b) (sym lean) (futile strict)
