-- What can be paid for a leg, and what may fill the place of a change: the lists that are made row by row are exactly that.
use Rattle.std.proofs.Common.{◌≡◌, ◌≢◌, refl, sym, ◌∙◌, ap, subst, ℕ, zero, suc, ◌<◌, Bool, true, false, not, ◌&&◌, List, [], ◌∷◌, ◌++◌, length, arith}
use Rattle.std.specs.Prelude.{if◌then◌else◌, Option, Some, None, option_map, slice_get, slice_index_or, map, flat_map, AllPairs, Contains}
use Rattle.std.specs.Option.{option_map_or}
use Rattle.std.proofs.lemmas.Bool.{and_parts}
use Rattle.std.proofs.lemmas.Option.{slice_get_within}
use Rattle.std.proofs.lemmas.List.{append-nil}
use Rattle.transit_base.specs.declared.numbers.ProductId.{ProductId}
use Rattle.transit_base.specs.declared.numbers.ProductRowId.{ProductRowId}
use Rattle.transit_base.specs.declared.numbers.RuleId.{RuleId}
use Rattle.transit_base.specs.declared.numbers.XferId.{XferId}
use Rattle.feed_rows.specs.declared.journeys.Buyer.{Buyer}
use Rattle.feed_rows.specs.declared.fares.ChangeChoice.{ChangeChoice}
use Rattle.feed_rows.specs.declared.fares.LegChoice.{LegChoice}
use Rattle.feed_rows.specs.declared.journeys.LegFacts.{LegFacts}
use Rattle.feed_rows.specs.declared.rows.LegRuleRow.{LegRuleRow}
use Rattle.feed_rows.specs.declared.rows.TransferRuleRow.{TransferRuleRow}
use Rattle.feed_rows.specs.FeedRows.{FeedRows}
use Rattle.feed_rows.specs.LegRules.{is_selected_rule, selected_rules}
use Rattle.feed_rows.specs.TransferRules.{AskedChange, is_selected}
use Rattle.feed_rows.specs.FareChoices.{is_open, open_rows, is_leg_choice, is_change_product}
use Rattle.feed_rows.specs.FareSteps.{is_arranged_after, is_row_after, is_place_after}
use Rattle.plain_laws.specs.Plain.{at_and, filled_and, joined_below}
use Rattle.plain_laws.proofs.Laws.{Contains-joined_below, joined_below-tells, AllPairs-joined_below, joined_below-same, joined_below-none, joined_below-picks, All-from, filled_and-true, list_any-place}
use Rattle.fare_transfer_rules.specs.declared.groups.ClassedRow.{ClassedRow}
use Rattle.fare_transfer_rules.specs.BuiltTransferRules.{is_between, AreRowsBetween, IsLeastFor}
use Rattle.fare_transfer_rules.specs.Classes.{row_to}
use Rattle.fare_transfer_rules.specs.Fits.{is_chosen}
use Rattle.fare_transfer_rules.proofs.SelectedLaws.{chosen_is}
use Rattle.fare_automaton.specs.Options.{ArePicks, pick_of, is_row_of, pick_if, rule_picks, picks_if, ArePlaces, place_of, place_if, product_places, row_places, chosen_places, place_list}
use Rattle.fare_automaton.proofs.JudgeLaws.{leg_choice_parts}
use Rattle.fare_automaton.proofs.PickedLaws.{flat_map-picks, map-picks}

-- ---- lists

-- what a list of one holds, where there is one
one_if : {X : Type 0} (b : Bool) (x y : X) → Contains (if b then x ∷ [] else []) y → (b ≡ true) × (x ≡ y)
one_if true x y (zero, lt, is) = (refl, is)
one_if true x y (suc k, lt, is) = absurd (omega (arith, lt))
one_if false x y (k, lt, is) = absurd (omega (arith, lt))

has_one : {X : Type 0} (b : Bool) (x : X) → b ≡ true → Contains (if b then x ∷ [] else []) x
has_one true x e = (0, omega arith, refl)
has_one false x e = absurd (let no : false ≡ true = e in cc)

once_if : {X : Type 0} (R : X → X → Type 0) (b : Bool) (x : X) → AllPairs R (if b then x ∷ [] else [])
once_if R true x i j d lt lt' = absurd (omega (arith, lt, lt'))
once_if R false x i j d lt lt' = absurd (omega (arith, lt'))

-- a list that is there where a test holds
list_if : {X : Type 0} (b : Bool) (xs : List X) (y : X) → Contains (if b then xs else []) y → (b ≡ true) × Contains xs y
list_if true xs y c = (refl, c)
list_if false xs y (k, lt, is) = absurd (omega (arith, lt))

has_list : {X : Type 0} (b : Bool) (xs : List X) (y : X) → b ≡ true → Contains xs y → Contains (if b then xs else []) y
has_list true xs y e c = c
has_list false xs y e c = absurd (let no : false ≡ true = e in cc)

pairs_if : {X : Type 0} (R : X → X → Type 0) (b : Bool) (xs : List X) → AllPairs R xs → AllPairs R (if b then xs else [])
pairs_if R true xs p = p
pairs_if R false xs p = λ i j d lt lt'. absurd (omega (arith, lt'))

-- a row that passes a test is there
row_within : {X : Type 0} (rows : List X) (i : ℕ) (test : X → Bool) → at_and rows i test ≡ true → i < length rows
row_within rows i test holds =
    let f = filled_and-true (slice_get rows i) test holds in
    slice_get_within rows i f.value f.is

-- ---- legs

module _ (feed : FeedRows) (buyer : Buyer) (leg : LegFacts) where
  -- a choice of a rule is by an open row
  rule_tells : (rule : ℕ) (pick : LegChoice) → Contains (rule_picks feed buyer rule) pick →
      (row : ℕ) × (is_row_of feed buyer rule row ≡ true) × (pick_of rule row ≡ pick)
  unfolding rule_picks
  rule_tells rule pick c =
      let f = joined_below-tells (length feed.products) (pick_if feed buyer rule) pick c in
      let one = one_if (is_row_of feed buyer rule f.0) (pick_of rule f.0) pick f.2 in
      (f.0, one.0, one.1)

  rule_once : (rule : ℕ) → AllPairs (λ (a b : LegChoice). a ≢ b) (rule_picks feed buyer rule)
  unfolding rule_picks
  rule_once rule =
      AllPairs-joined_below (λ (a b : LegChoice). a ≢ b) (length feed.products) (pick_if feed buyer rule)
      (λ i lt. once_if (λ (a b : LegChoice). a ≢ b) (is_row_of feed buyer rule i) (pick_of rule i))
      (λ i j x y lt lt' c c' same.
      let a = one_if (is_row_of feed buyer rule i) (pick_of rule i) x c in
      let b = one_if (is_row_of feed buyer rule j) (pick_of rule j) y c' in
      let e = ap (λ (p : LegChoice). p.product.0) (a.1 ∙ same ∙ sym b.1) in
      absurd (omega (arith, e, lt)))

  tells : (pick : LegChoice) → Contains (joined_below (length feed.leg_rules) (picks_if feed buyer leg)) pick →
      (at_and feed.leg_rules pick.rule.0 (is_selected_rule feed leg) ≡ true) × (is_row_of feed buyer pick.rule.0 pick.product.0 ≡ true)
  tells pick c =
      let f = joined_below-tells (length feed.leg_rules) (picks_if feed buyer leg) pick c in
      let l = list_if (at_and feed.leg_rules f.0 (is_selected_rule feed leg)) (rule_picks feed buyer f.0) pick f.2 in
      let r = rule_tells f.0 pick l.1 in
      let rule = ap (λ (p : LegChoice). p.rule.0) r.2 in
      let row = ap (λ (p : LegChoice). p.product.0) r.2 in (
        subst (λ (n : ℕ). at_and feed.leg_rules n (is_selected_rule feed leg) ≡ true) rule l.0,
        subst (λ (n : ℕ). is_row_of feed buyer n pick.product.0 ≡ true) rule (subst (λ (k : ℕ). is_row_of feed buyer f.0 k ≡ true) row r.1),
      )

  -- the choices that are listed are exactly those for the leg
  pub are_picks : (picks : List LegChoice) → picks ≡ joined_below (length feed.leg_rules) (picks_if feed buyer leg) → ArePicks feed buyer leg picks
  unfolding rule_picks
  are_picks picks is = subst (ArePicks feed buyer leg) (sym is) (record {
    right = All-from (λ (p : LegChoice). is_leg_choice feed buyer leg p ≡ true) _ (λ p c.
        let t = tells p c in
        sym (leg_choice_parts feed buyer leg p true true (sym t.0) (sym t.1)));
    all = λ p holds.
        let both = and_parts (at_and feed.leg_rules p.rule.0 (is_selected_rule feed leg)) (is_row_of feed buyer p.rule.0 p.product.0)
        (leg_choice_parts feed buyer leg p _ _ refl refl ∙ holds) in
        let rule = filled_and-true (slice_get feed.leg_rules p.rule.0) (λ (r : LegRuleRow). at_and feed.products p.product.0 (is_open r.product buyer)) both.1 in
        Contains-joined_below (length feed.leg_rules) (picks_if feed buyer leg) p.rule.0 p
        (row_within feed.leg_rules p.rule.0 (is_selected_rule feed leg) both.0)
        (has_list (at_and feed.leg_rules p.rule.0 (is_selected_rule feed leg)) (rule_picks feed buyer p.rule.0) p both.0
        (Contains-joined_below (length feed.products) (pick_if feed buyer p.rule.0) p.product.0 p
        (row_within feed.products p.product.0 (is_open rule.value.product buyer) rule.passes)
        (has_one (is_row_of feed buyer p.rule.0 p.product.0) p both.1)));
    once = AllPairs-joined_below (λ (a b : LegChoice). a ≢ b) (length feed.leg_rules) (picks_if feed buyer leg)
        (λ i lt. pairs_if (λ (a b : LegChoice). a ≢ b) (at_and feed.leg_rules i (is_selected_rule feed leg)) (rule_picks feed buyer i) (rule_once i))
        (λ i j x y lt lt' c c' same.
        let a = rule_tells i x (list_if (at_and feed.leg_rules i (is_selected_rule feed leg)) (rule_picks feed buyer i) x c).1 in
        let b = rule_tells j y (list_if (at_and feed.leg_rules j (is_selected_rule feed leg)) (rule_picks feed buyer j) y c').1 in
        let e = ap (λ (p : LegChoice). p.rule.0) (a.2 ∙ same ∙ sym b.2) in
        absurd (omega (arith, e, lt)));
  })

-- ---- changes

-- the row of a number
abbrev row_id : Option ℕ → Option ProductRowId
row_id None = None
row_id (Some row) = Some (record { 0 = row })

-- the number of the product row of a place, and that of its rule
abbrev row_in : Option ChangeChoice → ℕ
row_in None = 0
row_in (Some pick) = option_map_or (λ (r : ProductRowId). r.0) pick.product 0

abbrev rule_in : Option ChangeChoice → ℕ
rule_in None = 0
rule_in (Some pick) = pick.rule.0

-- a change that isn't arranged leaves its place empty
pub places_none : (feed : FeedRows) (buyer : Buyer) → ArePlaces feed buyer None (None ∷ [])
places_none feed buyer = record {
  right = λ k d lt. first k d lt;
  all = λ place holds. empty place holds;
  once = λ i j d lt lt'. absurd (omega (arith, lt, lt'));
}
  where
    first : (k : ℕ) (d : Option ChangeChoice) → k < 1 → is_place_after feed buyer None (slice_index_or (None ∷ []) k d) ≡ true
    first zero d lt = refl
    first (suc k) d lt = absurd (omega (arith, lt))

    empty : (place : Option ChangeChoice) → is_place_after feed buyer None place ≡ true → Contains (None ∷ []) place
    empty None holds = (0, omega arith, refl)
    empty (Some pick) holds = absurd (let no : false ≡ true = holds in cc)

-- a row that is right for a change is selected, and so the change is arranged
pub arranged_by : (feed : FeedRows) (buyer : Buyer) (change : AskedChange) (pick : ChangeChoice) → is_row_after feed buyer change pick ≡ true →
    is_arranged_after feed change ≡ true
unfolding is_row_after is_arranged_after
arranged_by feed buyer change pick holds =
    let f = filled_and-true (slice_get feed.transfer_rules pick.rule.0) _ holds in
    list_any-place (is_selected feed change) feed.transfer_rules pick.rule.0 f.value f.is (and_parts (is_selected feed change f.value) _ f.passes).0

-- and is there
row_of_pick : (feed : FeedRows) (buyer : Buyer) (change : AskedChange) (pick : ChangeChoice) → is_row_after feed buyer change pick ≡ true →
    pick.rule.0 < length feed.transfer_rules
unfolding is_row_after
row_of_pick feed buyer change pick holds = row_within feed.transfer_rules pick.rule.0 _ holds

pub places_unarranged : (feed : FeedRows) (buyer : Buyer) (change : AskedChange) → false ≡ is_arranged_after feed change →
    ArePlaces feed buyer (Some change) (None ∷ [])
places_unarranged feed buyer change none = record {
  right = λ k d lt. first k d lt;
  all = λ place holds. empty place holds;
  once = λ i j d lt lt'. absurd (omega (arith, lt, lt'));
}
  where
    first : (k : ℕ) (d : Option ChangeChoice) → k < 1 → is_place_after feed buyer (Some change) (slice_index_or (None ∷ []) k d) ≡ true
    first zero d lt = rw (sym none) refl
    first (suc k) d lt = absurd (omega (arith, lt))

    empty : (place : Option ChangeChoice) → is_place_after feed buyer (Some change) place ≡ true → Contains (None ∷ []) place
    empty None holds = (0, omega arith, refl)
    empty (Some pick) holds = absurd (let no : false ≡ true = none ∙ arranged_by feed buyer change pick holds in cc)

module _ (feed : FeedRows) (buyer : Buyer) (change : AskedChange) where
  -- a place by a product is by a right product row
  product_tells : (rule : ℕ) (product : Option ProductId) (place : Option ChangeChoice) → Contains (product_places feed buyer rule product) place →
      (row : Option ℕ) × (place_of rule row ≡ place) × (is_change_product feed buyer product (row_id row) ≡ true)
  unfolding product_places
  product_tells rule None place (zero, lt, is) = (None, is, refl)
  product_tells rule None place (suc k, lt, is) = absurd (omega (arith, lt))
  product_tells rule (Some product) place c =
      let f = joined_below-tells (length feed.products) (place_if feed buyer rule product) place c in
      let one = one_if (at_and feed.products f.0 (is_open product buyer)) (place_of rule (Some f.0)) place f.2 in
      (Some f.0, one.1, one.0)

  product_has : (rule : ℕ) (product : Option ProductId) (row : Option ℕ) → is_change_product feed buyer product (row_id row) ≡ true →
      Contains (product_places feed buyer rule product) (place_of rule row)
  unfolding product_places
  product_has rule None None right = (0, omega arith, refl)
  product_has rule None (Some row) right = absurd (let no : false ≡ true = right in cc)
  product_has rule (Some product) None right = absurd (let no : false ≡ true = right in cc)
  product_has rule (Some product) (Some row) right =
      Contains-joined_below (length feed.products) (place_if feed buyer rule product) row (place_of rule (Some row))
      (row_within feed.products row (is_open product buyer) right)
      (has_one (at_and feed.products row (is_open product buyer)) (place_of rule (Some row)) right)

  product_once : (rule : ℕ) (product : Option ProductId) → AllPairs (λ (a b : Option ChangeChoice). a ≢ b) (product_places feed buyer rule product)
  unfolding product_places
  product_once rule None = λ i j d lt lt'. absurd (omega (arith, lt, lt'))
  product_once rule (Some product) =
      AllPairs-joined_below (λ (a b : Option ChangeChoice). a ≢ b) (length feed.products) (place_if feed buyer rule product)
      (λ i lt. once_if (λ (a b : Option ChangeChoice). a ≢ b) (at_and feed.products i (is_open product buyer)) (place_of rule (Some i)))
      (λ i j x y lt lt' c c' same.
      let a = one_if (at_and feed.products i (is_open product buyer)) (place_of rule (Some i)) x c in
      let b = one_if (at_and feed.products j (is_open product buyer)) (place_of rule (Some j)) y c' in
      let e = ap row_in (a.1 ∙ same ∙ sym b.1) in
      absurd (omega (arith, e, lt)))

  -- a place by a row is by a selected one
  row_tells : (rule : ℕ) (place : Option ChangeChoice) → Contains (row_places feed buyer change rule) place →
      (rule_in place ≡ rule) × (is_place_after feed buyer (Some change) place ≡ true)
  unfolding is_row_after
  row_tells rule place c = by (slice_get feed.transfer_rules rule) refl c
    where
      by : (o : Option TransferRuleRow) → slice_get feed.transfer_rules rule ≡ o →
          Contains (option_map_or (λ row. if is_selected feed change row then product_places feed buyer rule row.product else []) o []) place →
          (rule_in place ≡ rule) × (is_place_after feed buyer (Some change) place ≡ true)
      by None is (k, lt, at) = absurd (omega (arith, lt))
      by (Some row) is c =
          let l = list_if (is_selected feed change row) (product_places feed buyer rule row.product) place c in
          let p = product_tells rule row.product place l.1 in
          right row is l.0 p.0 p.1 p.2
        where
          right : (row : TransferRuleRow) → slice_get feed.transfer_rules rule ≡ Some row → is_selected feed change row ≡ true → (r : Option ℕ) →
              place_of rule r ≡ place → is_change_product feed buyer row.product (row_id r) ≡ true →
              (rule_in place ≡ rule) × (is_place_after feed buyer (Some change) place ≡ true)
          right row is selected None same product =
              (sym (ap rule_in same), subst (λ (q : Option ChangeChoice). is_place_after feed buyer (Some change) q ≡ true) same (rw (is, selected, product) refl))
          right row is selected (Some r) same product =
              (sym (ap rule_in same), subst (λ (q : Option ChangeChoice). is_place_after feed buyer (Some change) q ≡ true) same (rw (is, selected, product) refl))

  row_has : (pick : ChangeChoice) → is_row_after feed buyer change pick ≡ true → Contains (row_places feed buyer change pick.rule.0) (Some pick)
  unfolding is_row_after
  row_has pick holds = by (slice_get feed.transfer_rules pick.rule.0) refl holds
    where
      named : (pick : ChangeChoice) → (r : Option ProductRowId) → pick.product ≡ r → place_of pick.rule.0 (option_map (λ (q : ProductRowId). q.0) r) ≡ Some pick
      named pick None is = ap (λ (p : Option ProductRowId). Some (record { rule = pick.rule; product = p })) (sym is)
      named pick (Some q) is = ap (λ (p : Option ProductRowId). Some (record { rule = pick.rule; product = p })) (sym is)

      same_row : (r : Option ProductRowId) → row_id (option_map (λ (q : ProductRowId). q.0) r) ≡ r
      same_row None = refl
      same_row (Some q) = refl

      by : (o : Option TransferRuleRow) → slice_get feed.transfer_rules pick.rule.0 ≡ o →
          filled_and o (λ rule. is_selected feed change rule && is_change_product feed buyer rule.product pick.product) ≡ true →
          Contains (option_map_or (λ row. if is_selected feed change row then product_places feed buyer pick.rule.0 row.product else []) o []) (Some pick)
      by None is e = absurd (let no : false ≡ true = e in cc)
      by (Some row) is e =
          let both = and_parts (is_selected feed change row) _ e in
          has_list (is_selected feed change row) (product_places feed buyer pick.rule.0 row.product) (Some pick) both.0
          (subst (Contains (product_places feed buyer pick.rule.0 row.product)) (named pick pick.product refl)
          (product_has pick.rule.0 row.product (option_map (λ (q : ProductRowId). q.0) pick.product)
          (ap (is_change_product feed buyer row.product) (same_row pick.product) ∙ both.1)))

  row_once : (rule : ℕ) → AllPairs (λ (a b : Option ChangeChoice). a ≢ b) (row_places feed buyer change rule)
  row_once rule = by (slice_get feed.transfer_rules rule)
    where
      by : (o : Option TransferRuleRow) →
          AllPairs (λ (a b : Option ChangeChoice). a ≢ b) (option_map_or (λ row. if is_selected feed change row then product_places feed buyer rule row.product else []) o [])
      by None = λ i j d lt lt'. absurd (omega (arith, lt'))
      by (Some row) = pairs_if (λ (a b : Option ChangeChoice). a ≢ b) (is_selected feed change row) (product_places feed buyer rule row.product) (product_once rule row.product)

  -- the places that are listed are exactly those of an arranged change
  pub places_arranged : (places : List (Option ChangeChoice)) → true ≡ is_arranged_after feed change →
      places ≡ joined_below (length feed.transfer_rules) (row_places feed buyer change) → ArePlaces feed buyer (Some change) places
  places_arranged places arranged is = subst (ArePlaces feed buyer (Some change)) (sym is) (record {
    right = All-from (λ (p : Option ChangeChoice). is_place_after feed buyer (Some change) p ≡ true) _ (λ p c.
        let f = joined_below-tells (length feed.transfer_rules) (row_places feed buyer change) p c in
        (row_tells f.0 p f.2).1);
    all = λ p holds. has p holds;
    once = AllPairs-joined_below (λ (a b : Option ChangeChoice). a ≢ b) (length feed.transfer_rules) (row_places feed buyer change)
        (λ i lt. row_once i)
        (λ i j x y lt lt' c c' same.
        let a = row_tells i x c in
        let b = row_tells j y c' in
        let e = sym a.0 ∙ ap rule_in same ∙ b.0 in
        absurd (omega (arith, e, lt)));
  })
    where
      within : (pick : ChangeChoice) → is_row_after feed buyer change pick ≡ true → pick.rule.0 < length feed.transfer_rules
      within pick holds = row_of_pick feed buyer change pick holds

      has : (p : Option ChangeChoice) → is_place_after feed buyer (Some change) p ≡ true →
          Contains (joined_below (length feed.transfer_rules) (row_places feed buyer change)) p
      has None holds = absurd (let no : not true ≡ true = ap not arranged ∙ holds in cc)
      has (Some pick) holds =
          Contains-joined_below (length feed.transfer_rules) (row_places feed buyer change) pick.rule.0 (Some pick) (within pick holds) (row_has pick holds)

-- ---- lists that are made row by row

-- the rules that a leg selects give what can be paid for it
pub picks_are : (feed : FeedRows) (buyer : Buyer) (leg : LegFacts) →
    flat_map (λ (rule : RuleId). rule_picks feed buyer rule.0) (selected_rules feed leg) ≡ joined_below (length feed.leg_rules) (picks_if feed buyer leg)
picks_are feed buyer leg =
    flat_map-picks (length feed.leg_rules) (λ i. at_and feed.leg_rules i (is_selected_rule feed leg)) (λ i. record { 0 = i })
    (λ (rule : RuleId). rule_picks feed buyer rule.0) (picks_if feed buyer leg) (λ i. refl)

-- the open rows of a rule's product give its choices
pub rule_picks-rows : (feed : FeedRows) (buyer : Buyer) (rule : RuleId) (row : LegRuleRow) → slice_get feed.leg_rules rule.0 ≡ Some row →
    map (λ (priced : ProductRowId). pick_of rule.0 priced.0) (open_rows feed row.product buyer) ≡ rule_picks feed buyer rule.0
unfolding rule_picks
rule_picks-rows feed buyer rule row is =
    map-picks (length feed.products) (λ i. at_and feed.products i (is_open row.product buyer)) (λ i. record { 0 = i }) (λ (priced : ProductRowId). pick_of rule.0 priced.0)
    ∙ sym (joined_below-picks (length feed.products) (λ i. at_and feed.products i (is_open row.product buyer)) (pick_of rule.0))
    ∙ joined_below-same (length feed.products) _ (pick_if feed buyer rule.0) (λ i lt. by i (slice_get feed.leg_rules rule.0) is)
  where
    by : (i : ℕ) (o : Option LegRuleRow) → o ≡ Some row →
        (if at_and feed.products i (is_open row.product buyer) then pick_of rule.0 i ∷ [] else [])
        ≡ (if filled_and o (λ r. at_and feed.products i (is_open r.product buyer)) then pick_of rule.0 i ∷ [] else [])
    by i o e = rw e refl

-- past the rules there is nothing to add
pub rule_picks-past : (feed : FeedRows) (buyer : Buyer) (rule : RuleId) (before : List LegChoice) → slice_get feed.leg_rules rule.0 ≡ None →
    before ≡ before ++ rule_picks feed buyer rule.0
unfolding rule_picks
rule_picks-past feed buyer rule before none =
    sym (ap (λ xs. before ++ xs) (joined_below-none (length feed.products) (pick_if feed buyer rule.0) (λ i lt. rw none refl)) ∙ append-nil before)

-- a row that is there gives its places where it is chosen
pub chosen_places-where : (feed : FeedRows) (buyer : Buyer) (change : AskedChange) (least : Option (Option ℕ)) (rule : XferId)
    (row : TransferRuleRow) (b : Bool) (before : List (Option ChangeChoice)) → slice_get feed.transfer_rules rule.0 ≡ Some row
    → b ≡ is_chosen change least row
    → before ++ (if b then product_places feed buyer rule.0 row.product else []) ≡ before ++ chosen_places feed buyer change least rule
chosen_places-where feed buyer change least rule row b before at is =
    ap (λ (c : Bool). before ++ (if c then product_places feed buyer rule.0 row.product else [])) is
    ∙ ap (λ (o : Option TransferRuleRow). before ++ option_map_or (λ r. if is_chosen change least r then product_places feed buyer rule.0 r.product else []) o []) (sym at)

-- past the rows there is nothing to add
pub chosen_places-past : (feed : FeedRows) (buyer : Buyer) (change : AskedChange) (least : Option (Option ℕ)) (rule : XferId)
    (before : List (Option ChangeChoice)) → slice_get feed.transfer_rules rule.0 ≡ None → before ≡ before ++ chosen_places feed buyer change least rule
chosen_places-past feed buyer change least rule before none = rw none (sym (append-nil before))

-- the rows that are chosen, of those for changes between the groups, give the places of those that are selected
pub places_are : (feed : FeedRows) (buyer : Buyer) (change : AskedChange) (among : List ClassedRow)
    (are : AreRowsBetween feed change.from change.to among) (least : Option (Option ℕ)) → IsLeastFor feed change least →
    flat_map (λ (r : ClassedRow). chosen_places feed buyer change least r.row) among ≡ joined_below (length feed.transfer_rules) (row_places feed buyer change)
places_are feed buyer change among are least is_least =
    ap (flat_map (λ (r : ClassedRow). chosen_places feed buyer change least r.row)) are.are
    ∙ flat_map-picks (length feed.transfer_rules) (λ i. at_and feed.transfer_rules i (is_between feed change.from change.to)) (row_to are.to_class)
    (λ (r : ClassedRow). chosen_places feed buyer change least r.row) (row_places feed buyer change)
    (λ i. by i (slice_get feed.transfer_rules i))
  where
    both : (b c : Bool) (places : List (Option ChangeChoice)) → (if b then (if c then places else []) else []) ≡ (if b && c then places else [])
    both true c places = refl
    both false c places = refl

    by : (i : ℕ) (o : Option TransferRuleRow)
        → (if filled_and o (is_between feed change.from change.to)
        then option_map_or (λ row. if is_chosen change least row then product_places feed buyer i row.product else []) o [] else [])
        ≡ option_map_or (λ row. if is_selected feed change row then product_places feed buyer i row.product else []) o []
    by i None = refl
    by i (Some row) =
        both (is_between feed change.from change.to row) (is_chosen change least row) (product_places feed buyer i row.product)
        ∙ ap (λ c. if c then product_places feed buyer i row.product else []) (chosen_is feed change least is_least row)

-- the open rows of a product give the places by a transfer row with it
pub product_places-rows : (feed : FeedRows) (buyer : Buyer) (rule : XferId) (product : ProductId) →
    map (λ (priced : ProductRowId). place_of rule.0 (Some priced.0)) (open_rows feed product buyer) ≡ product_places feed buyer rule.0 (Some product)
unfolding product_places
product_places-rows feed buyer rule product =
    map-picks (length feed.products) (λ i. at_and feed.products i (is_open product buyer)) (λ i. record { 0 = i })
    (λ (priced : ProductRowId). place_of rule.0 (Some priced.0))
    ∙ sym (joined_below-picks (length feed.products) (λ i. at_and feed.products i (is_open product buyer)) (λ i. place_of rule.0 (Some i)))

-- ---- the list of places

pub list_arranged : (feed : FeedRows) (buyer : Buyer) (change : AskedChange) → true ≡ is_arranged_after feed change →
    joined_below (length feed.transfer_rules) (row_places feed buyer change) ≡ place_list feed buyer (Some change)
unfolding place_list
list_arranged feed buyer change arranged = rw (sym arranged) refl

pub list_unarranged : (feed : FeedRows) (buyer : Buyer) (change : AskedChange) → false ≡ is_arranged_after feed change →
    None ∷ [] ≡ place_list feed buyer (Some change)
unfolding place_list
list_unarranged feed buyer change none = rw (sym none) refl

-- it is exactly what may fill the place
pub are_places : (feed : FeedRows) (buyer : Buyer) (change : Option AskedChange) → ArePlaces feed buyer change (place_list feed buyer change)
unfolding place_list
are_places feed buyer None = places_none feed buyer
are_places feed buyer (Some change) = by (is_arranged_after feed change) refl
  where
    by : (b : Bool) → is_arranged_after feed change ≡ b →
        ArePlaces feed buyer (Some change) (if b then joined_below (length feed.transfer_rules) (row_places feed buyer change) else None ∷ [])
    by true is = places_arranged feed buyer change _ (sym is) refl
    by false is = places_unarranged feed buyer change (sym is)
