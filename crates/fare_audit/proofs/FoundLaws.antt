-- What an audit finds.
use Rattle.std.proofs.Common.{◌≡◌, refl, sym, ◌∙◌, ap, subst, ℕ, ◌<◌, ◌≤◌, ◌⊎◌, inl, inr, ⊎_elim, Bool, true, false, ◌&&◌, List, length, Contains, get_or, arith}
use Rattle.std.specs.Prelude.{Option, Some, None, slice_get, is_some, option_map}
use Rattle.std.specs.List.{list_any}
use Rattle.std.proofs.lemmas.Bool.{and_parts, and_from}
use Rattle.std.proofs.lemmas.Option.{same_Some, slice_get_cases, slice_get_within}
use Rattle.transit_base.specs.declared.numbers.ProductId.{ProductId}
use Rattle.transit_base.specs.declared.numbers.ProductRowId.{ProductRowId}
use Rattle.feed_rows.specs.declared.journeys.Buyer.{Buyer}
use Rattle.transit_base.specs.declared.numbers.NetworkId.{NetworkId}
use Rattle.transit_base.specs.declared.numbers.RuleId.{RuleId}
use Rattle.transit_base.specs.declared.numbers.StopId.{StopId}
use Rattle.feed_rows.specs.declared.journeys.LegFacts.{LegFacts}
use Rattle.feed_rows.specs.declared.journeys.Pair.{Pair}
use Rattle.feed_rows.specs.declared.journeys.RideFacts.{RideFacts}
use Rattle.feed_rows.specs.declared.rows.LegRuleRow.{LegRuleRow}
use Rattle.feed_rows.specs.FareChoices.{is_open}
use Rattle.feed_rows.specs.FareGaps.{has_option}
use Rattle.feed_rows.specs.FeedRows.{FeedRows}
use Rattle.feed_rows.specs.LegRules.{is_selected_rule, selected_rules}
use Rattle.feed_rows.specs.Legs.{leg_facts}
use Rattle.feed_rows.specs.OpenRows.{least_open_row}
use Rattle.feed_laws.proofs.OpenRowLaws.{least_open_row-none, least_open_row-some}
use Rattle.plain_laws.specs.Plain.{at_and, filled_and}
use Rattle.plain_laws.proofs.Laws.{Contains-picks_below, Contains-slice_get, any_passes, filled_and-true, list_any_tells, picks_below-tells, same_test, slice_get-Contains}
use Rattle.fare_audit.specs.declared.ends.End.{End}
use Rattle.fare_audit.specs.declared.found.Found.{Found}
use Rattle.fare_audit.specs.declared.found.Walk.{Walk}
use Rattle.ride_cache.specs.Kept.{HoldsFor}
use Rattle.fare_timeframes.specs.Cuts.{AreLike}
use Rattle.fare_audit.specs.Found.{AuditOf, AreNoted, CoversEnds, CoversPair, GrowsTo, HasLike, HasWalk, IsCovered, IsFound, IsGap, IsRight, IsUsed, IsWalk, MarksAll, StandsFor, is_marked, opens_rule, selects}
use Rattle.fare_audit.proofs.LikeLaws.{option_like, selects_like}

-- a product has a least open row where it has an open one
pub least_is_some : (feed : FeedRows) (product : ProductId) (buyer : Buyer) →
    is_some (least_open_row feed product buyer) ≡ list_any (is_open product buyer) feed.products
least_is_some feed product buyer = step (least_open_row feed product buyer) refl
  where
    step : (o : Option ProductRowId) → least_open_row feed product buyer ≡ o → is_some o ≡ list_any (is_open product buyer) feed.products
    step None e = sym (least_open_row-none feed product buyer e)
    step (Some id) e =
        let found = least_open_row-some feed product buyer id e in
        sym (any_passes _ feed.products found.row (Contains-slice_get _ id.0 _ found.is) found.opens)

abbrev rule_id : ℕ → RuleId
rule_id i = record { 0 = i }

-- some rule that the leg selects opens exactly where the leg has an option
pub any_selected : (audit : AuditOf) (leg : LegFacts) →
    list_any (opens_rule audit) (selected_rules audit.feed leg) ≡ has_option audit.feed audit.buyer leg
unfolding has_option
any_selected audit leg = same_test _ _ there back
  where
    there : list_any (opens_rule audit) (selected_rules audit.feed leg) ≡ true →
        list_any (λ rule. is_selected_rule audit.feed leg rule && list_any (is_open rule.product audit.buyer) audit.feed.products) audit.feed.leg_rules ≡ true
    there e =
        let found = list_any_tells (opens_rule audit) (selected_rules audit.feed leg) e in
        let p = picks_below-tells (length audit.feed.leg_rules) (λ i. at_and audit.feed.leg_rules i (is_selected_rule audit.feed leg)) rule_id found.0 found.1 in
        let selected = filled_and-true (slice_get audit.feed.leg_rules p.number) (is_selected_rule audit.feed leg) p.passes in
        let same : p.number ≡ found.0.0 = ap (λ (r : RuleId). r.0) p.is in
        let opening = filled_and-true (slice_get audit.feed.leg_rules found.0.0) (λ (row : LegRuleRow). list_any (is_open row.product audit.buyer) audit.feed.products) found.2 in
        let one : selected.value ≡ opening.value = same_Some _ _ (sym selected.is ∙ ap (slice_get audit.feed.leg_rules) same ∙ opening.is) in
        let P : LegRuleRow → Type 0 = λ row. list_any (is_open row.product audit.buyer) audit.feed.products ≡ true in
        any_passes _ audit.feed.leg_rules selected.value (Contains-slice_get _ p.number _ selected.is)
        (and_from _ _ selected.passes (subst P (sym one) opening.passes))

    back : list_any (λ rule. is_selected_rule audit.feed leg rule && list_any (is_open rule.product audit.buyer) audit.feed.products) audit.feed.leg_rules ≡ true →
        list_any (opens_rule audit) (selected_rules audit.feed leg) ≡ true
    back e =
        let found = list_any_tells _ audit.feed.leg_rules e in
        let place = slice_get-Contains audit.feed.leg_rules found.0 found.1 in
        let both = and_parts _ _ found.2 in
        let at = ap (λ o. filled_and o (is_selected_rule audit.feed leg)) place.1 ∙ both.0 in
        any_passes (opens_rule audit) (selected_rules audit.feed leg) (record { 0 = place.0 })
        (Contains-picks_below _ _ _ place.0 (slice_get_within _ place.0 _ place.1) at)
        (ap (λ o. filled_and o (λ (row : LegRuleRow). list_any (is_open row.product audit.buyer) audit.feed.products)) place.1 ∙ both.1)

-- a rule that is among the selected ones is selected, and the other way
pub selected_among : (feed : FeedRows) (ride : RideFacts) (i : ℕ) → selects feed ride i ≡ true →
    Contains (selected_rules feed (leg_facts feed ride)) (record { 0 = i })
selected_among feed ride i e =
    let row = filled_and-true (slice_get feed.leg_rules i) _ e in
    Contains-picks_below _ _ _ i (slice_get_within _ i _ row.is) e

pub among_selected : (feed : FeedRows) (ride : RideFacts) (i : ℕ) → Contains (selected_rules feed (leg_facts feed ride)) (record { 0 = i }) →
    selects feed ride i ≡ true
among_selected feed ride i at =
    let p = picks_below-tells (length feed.leg_rules) (selects feed ride) rule_id (record { 0 = i }) at in
    let same : p.number ≡ i = ap (λ (r : RuleId). r.0) p.is in
    subst (λ (n : ℕ). selects feed ride n ≡ true) same p.passes

-- there is an item at each place
pub item_at : {X : Type 0} (xs : List X) (i : ℕ) → i < length xs → (x : X) × (slice_get xs i ≡ Some x)
item_at {X} xs i lt = step (slice_get_cases xs i).1
  where
    step : ((x : X) × (i < length xs) × (slice_get xs i ≡ Some x) × (get_or xs i x ≡ x)) ⊎ ((length xs ≤ i) × (slice_get xs i ≡ None)) → (x : X) × (slice_get xs i ≡ Some x)
    step (inl h) = (h.0, h.2)
    step (inr h) = let le = h.0 in absurd (omega (arith, lt, le))

-- nothing is lost
pub grows_itself : (found : Found) → GrowsTo found found
grows_itself found = record { used = λ i at. at; gaps = λ pair at. at }

pub grows_on : (a b d : Found) → GrowsTo a b → GrowsTo b d → GrowsTo a d
grows_on a b d one other = record { used = λ i at. other.used i (one.used i at); gaps = λ pair at. other.gaps pair (one.gaps pair at) }

pub covered_later : (audit : AuditOf) (a b : Found) (facts : RideFacts) → GrowsTo a b → IsCovered audit a facts → IsCovered audit b facts
covered_later audit a b facts grows is = record { unpaid = λ e. grows.gaps _ (is.unpaid e); rules = λ i e. grows.used i (is.rules i e) }

pub pair_later : (audit : AuditOf) (old new : Found) → GrowsTo old new → (network : Option NetworkId) (ends : List End) (from to : ℕ) →
    CoversPair audit old network ends from to → CoversPair audit new network ends from to
pair_later audit old new grows network ends from to covers e f at on pickup drop_off facts is = covered_later audit old new facts grows (covers e f at on pickup drop_off facts is)

pub ends_later : (audit : AuditOf) (old new : Found) → GrowsTo old new → (network : Option NetworkId) (ends : List End) →
    CoversEnds audit old network ends → CoversEnds audit new network ends
ends_later audit old new grows network ends covers from to lt = pair_later audit old new grows network ends from to (covers from to lt)

-- the runs that are kept
abbrev AreWalked : AuditOf → Found → Type 0
AreWalked audit found = (walk : Walk) → Contains found.walks.items walk → CoversEnds audit found walk.network walk.ends.items

still_walked : (audit : AuditOf) (old new : Found) → GrowsTo old new → new.walks ≡ old.walks → AreWalked audit old → AreWalked audit new
still_walked audit old new grows same covers = λ walk at. ends_later audit old new grows walk.network walk.ends.items (covers walk (rw same at at))

pub still_noted : (old new : Found) → AreNoted old → new.noted ≡ old.noted → ((p : Pair) → Contains old.gaps.items p → Contains new.gaps.items p) → AreNoted new
still_noted old new were noted kept = λ p at. kept p (were p (rw noted at at))

-- what was looked at is covered
pub walked_covers : (audit : AuditOf) (found : Found) (network : Option NetworkId) (ends : List End) → IsFound audit found → HasWalk found network ends → CoversEnds audit found network ends
walked_covers audit found network ends is kept =
    subst (λ (n : Option NetworkId). CoversEnds audit found n ends) kept.2.0 (subst (CoversEnds audit found kept.0.network) kept.2.1 (is.walked kept.0 kept.1))

pub grows_same : (old new : Found) → new.used ≡ old.used → new.gaps ≡ old.gaps → GrowsTo old new
grows_same old new used gaps = record { used = λ i at. rw used at; gaps = λ pair at. rw gaps at }

-- what is covered for a ride is for one between the same stops that is seen alike
pub covered_like : (audit : AuditOf) (found : Found) (a b : RideFacts) → AreLike audit.feed a b → a.from ≡ b.from → a.to ≡ b.to →
    IsCovered audit found a → IsCovered audit found b
covered_like audit found a b like from to is =
    record {
      unpaid = λ e.
          let here = is.unpaid (option_like audit.feed a b like audit.buyer ∙ e) in
          let P : Pair → Type 0 = Contains found.gaps.items in
          subst P (pairs from to) here;
      rules = λ i e. is.rules i (selects_like audit.feed a b like i ∙ e);
    }
  where
    pairs : a.from ≡ b.from → a.to ≡ b.to → record { from = a.from; to = a.to } ≡ (let q : Pair = record { from = b.from; to = b.to } in q)
    pairs f t = rw (f, t) refl

-- pairs of the same stops are the same
two : ℕ → ℕ → Pair
two from to = record { from = record { 0 = from }; to = record { 0 = to } }

two_equal : (m n p q : ℕ) → m ≡ n → p ≡ q → two m p ≡ two n q
two_equal m n p q e f = rw (e, f) refl

pub pair_equal : (a b : Pair) → a.from.0 ≡ b.from.0 → a.to.0 ≡ b.to.0 → a ≡ b
unfolding two
pair_equal a b e f = two_equal a.from.0 b.from.0 a.to.0 b.to.0 e f

-- a field of what may be there is there where that is
pub some_mapped : {X Y : Type 0} (f : X → Y) (o : Option X) → is_some o ≡ is_some (option_map f o)
some_mapped f None = refl
some_mapped f (Some x) = refl

-- the rules that a ride selects are marked
pub marks_selected : (feed : FeedRows) (ride : RideFacts) (old new : List Bool) → length old ≡ length feed.leg_rules →
    MarksAll (selected_rules feed (leg_facts feed ride)) old new → (i : ℕ) → selects feed ride i ≡ true → is_marked new i ≡ true
marks_selected feed ride old new many marks i e =
    let row = filled_and-true (slice_get feed.leg_rules i) (is_selected_rule feed (leg_facts feed ride)) e in
    let lt = slice_get_within feed.leg_rules i row.value row.is in
    marks.marks (record { 0 = i }) (selected_among feed ride i e) (omega (arith, lt, many))

-- what was found stays true with the judgement of one ride more
pub judged_found : (audit : AuditOf) (old new : Found) (ride : RideFacts) (has : Bool) → IsFound audit old → HasLike audit ride →
    MarksAll (selected_rules audit.feed (leg_facts audit.feed ride)) old.used.items new.used.items →
    has ≡ has_option audit.feed audit.buyer (leg_facts audit.feed ride) → new.gaps ≡ old.gaps → new.noted ≡ old.noted → new.walks ≡ old.walks →
    ((other : RideFacts) (kept : Bool) → HoldsFor new.verdicts other kept → HoldsFor old.verdicts other kept ⊎ ((ride ≡ other) × (has ≡ kept))) →
    IsFound audit new
judged_found audit old new ride has were like marks value gaps noted walked verdicts =
    record {
      many = marks.many ∙ were.many;
      used = λ i at. ⊎_elim
          (λ (before : is_marked old.used.items i ≡ true). were.used i before)
          (λ (here : Contains (selected_rules audit.feed (leg_facts audit.feed ride)) (record { 0 = i })).
          let used : IsUsed audit i = record { facts = like.0; audited = like.1; selected = sym (selects_like audit.feed ride like.0 like.2 i) ∙ among_selected audit.feed ride i here } in used)
          (marks.tells i at);
      gaps = λ pair at. were.gaps pair (rw gaps at at);
      noted = λ pair at. rw gaps (were.noted pair (rw noted at at));
      verdicts = λ other kept at. ⊎_elim
          (λ (before : HoldsFor old.verdicts other kept). let r = were.verdicts other kept before in let right : IsRight audit new.used.items other kept = record { value = r.value; marks = λ i e. marks.kept i (r.marks i e) } in right)
          (λ (here : (ride ≡ other) × (has ≡ kept)).
          let one : IsRight audit new.used.items ride has = record { value = value; marks = marks_selected audit.feed ride old.used.items new.used.items were.many marks } in
          subst (λ (r : RideFacts). IsRight audit new.used.items r kept) here.0 (subst (IsRight audit new.used.items ride) here.1 one))
          (verdicts other kept at);
      walked = still_walked audit old new (record { used = marks.kept; gaps = λ pair at. rw gaps at }) walked were.walked;
    }

-- a ride between two ends without an option is a gap
pub gap_here : (audit : AuditOf) (network : Option NetworkId) (from to : End) (facts : RideFacts) → StandsFor audit network from to facts →
    has_option audit.feed audit.buyer (leg_facts audit.feed (record { from = from.like; to = to.like; network = network; departure = from.departure; arrival = to.arrival })) ≡ false →
    IsGap audit (record { from = from.stop; to = to.stop })
gap_here audit network from to facts is off =
    record { facts = facts; audited = is.audited; from = sym is.from_stop; to = sym is.to_stop; unpaid = sym (option_like audit.feed _ facts is.like audit.buyer) ∙ off }

-- what was found stays true with one gap more
pub noted_found : (audit : AuditOf) (old new : Found) (pair : Pair) → IsFound audit old → new.used ≡ old.used → new.verdicts ≡ old.verdicts → new.walks ≡ old.walks → AreNoted new →
    ((p : Pair) → Contains old.gaps.items p → Contains new.gaps.items p) → ((p : Pair) → Contains new.gaps.items p → Contains old.gaps.items p ⊎ (p ≡ pair)) → IsGap audit pair → IsFound audit new
noted_found audit old new pair were used verdicts walked noted kept tells gap =
    record {
      many = rw used were.many;
      used = λ i at. were.used i (rw used at at);
      gaps = λ p at. ⊎_elim
          (λ (before : Contains old.gaps.items p). were.gaps p before)
          (λ (here : p ≡ pair). subst (IsGap audit) (sym here) gap)
          (tells p at);
      noted = noted;
      verdicts = λ ride has at. rw used (were.verdicts ride has (rw verdicts at at));
      walked = still_walked audit old new (record { used = λ i at. rw used at; gaps = kept }) walked were.walked;
    }

-- or with one run more that was looked at
pub walked_found : (audit : AuditOf) (old new : Found) (network : Option NetworkId) (ends : List End) → IsFound audit old → new.used ≡ old.used → new.gaps ≡ old.gaps → new.verdicts ≡ old.verdicts → new.noted ≡ old.noted →
    ((walk : Walk) → Contains new.walks.items walk → Contains old.walks.items walk ⊎ IsWalk walk network ends) → CoversEnds audit old network ends → IsFound audit new
walked_found audit old new network ends were used gaps verdicts noted walks covers =
    record {
      many = rw used were.many;
      used = λ i at. were.used i (rw used at at);
      gaps = λ p at. were.gaps p (rw gaps at at);
      noted = λ p at. rw gaps (were.noted p (rw noted at at));
      verdicts = λ ride has at. rw used (were.verdicts ride has (rw verdicts at at));
      walked = λ walk at. ends_later audit old new (grows_same old new used gaps) walk.network walk.ends.items (⊎_elim
          (λ (before : Contains old.walks.items walk). were.walked walk before)
          (λ (here : IsWalk walk network ends). subst (λ (n : Option NetworkId). CoversEnds audit old n walk.ends.items) (sym here.0) (subst (CoversEnds audit old network) (sym here.1) covers))
          (walks walk at));
    }

abbrev two_of : StopId → StopId → Pair
two_of a b = record { from = a; to = b }

-- a ride is covered where its kind was judged, and its stops noted where it has no option
pub covered_by_judgement : (audit : AuditOf) (network : Option NetworkId) (from to : End) (found : Found) (ride facts : RideFacts) → StandsFor audit network from to facts → AreLike audit.feed ride facts →
    (has_option audit.feed audit.buyer (leg_facts audit.feed ride) ≡ false → Contains found.gaps.items (record { from = from.stop; to = to.stop })) →
    ((i : ℕ) → selects audit.feed ride i ≡ true → is_marked found.used.items i ≡ true) → IsCovered audit found facts
covered_by_judgement audit network from to found ride facts is like gap marks =
    record {
      unpaid = λ e. subst (Contains found.gaps.items) (pair_equal (two_of from.stop to.stop) (two_of facts.from facts.to) (ap (λ (s : StopId). s.0) is.from_stop) (ap (λ (s : StopId). s.0) is.to_stop))
          (gap (option_like audit.feed ride facts like audit.buyer ∙ e));
      rules = λ i e. marks i (selects_like audit.feed ride facts like i ∙ e);
    }
