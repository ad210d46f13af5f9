-- A level tells no more than each move leads to, where the level before it tells what follows.
use Rattle.std.proofs.Common.{◌≡◌, refl, sym, ◌∙◌, ap, subst, ℕ, ◌+◌, ◌≤◌, Bool, true, false, ◌&&◌, List, arith}
use Rattle.std.specs.Prelude.{◌==◌, if◌then◌else◌, Option, Some, None, slice_get, option_map, option_and_then, ℤ, pos, ◌+ℤ◌, ◌≤ℤ◌, ◌<ℤ◌}
use Rattle.std.specs.Int.{int_min}
use Rattle.std.specs.Option.{option_map_or, ForSome}
use Rattle.std.proofs.lemmas.Bool.{and_parts, eqb-true}
use Rattle.std.proofs.lemmas.Bool.Decides.{nat_tests}
use Rattle.std.proofs.lemmas.Int.{ints}
use Rattle.std.proofs.lemmas.Option.{same_Some, none-some}
use Rattle.transit_base.specs.declared.moments.Moment.{Moment}
use Rattle.transit_base.specs.declared.numbers.LegGroupId.{LegGroupId}
use Rattle.transit_base.specs.declared.numbers.ProductId.{ProductId}
use Rattle.transit_base.specs.declared.numbers.ProductRowId.{ProductRowId}
use Rattle.feed_rows.specs.declared.journeys.Buyer.{Buyer}
use Rattle.feed_rows.specs.declared.fares.ChangeChoice.{ChangeChoice}
use Rattle.feed_rows.specs.declared.fares.LegChoice.{LegChoice}
use Rattle.feed_rows.specs.declared.journeys.LegFacts.{LegFacts}
use Rattle.feed_rows.specs.declared.rows.LegRuleRow.{LegRuleRow}
use Rattle.feed_rows.specs.declared.rows.TransferRuleRow.{TransferRuleRow}
use Rattle.feed_rows.specs.declared.states.FareState.{FareState}
use Rattle.feed_rows.specs.declared.states.Move.{Move}
use Rattle.feed_rows.specs.FeedRows.{FeedRows}
use Rattle.feed_rows.specs.Codes.{change_alone, includes_leg_after}
use Rattle.feed_rows.specs.FareChoices.{is_open, chosen_leg, is_leg_choice, is_change_product}
use Rattle.feed_rows.specs.FareSteps.{Run, place_kind, place_charge, next_paid, next_held, move_after, leg_taken, place_taken, asked_after, is_place_after, is_row_after, run_told, has_clock}
use Rattle.feed_rows.specs.FareSums.{amount_of}
use Rattle.feed_rows.specs.LegRules.{is_selected_rule}
use Rattle.feed_rows.specs.TransferRules.{FareLeg, AskedChange, asked_change, change_between, limit_holds, group_matches, is_candidate, suffices, is_selected, is_least_count}
use Rattle.plain_laws.specs.Plain.{at_and, empty_or}
use Rattle.plain_laws.proofs.Laws.{filled_and-true}
use Rattle.fare_laws.proofs.MoveLaws.{first_tells, next_group, next_tells}
use Rattle.fare_bounds.specs.declared.least.LeastAmounts.{LeastAmounts}
use Rattle.fare_bounds.specs.declared.level.Level.{Level}
use Rattle.fare_bounds.specs.Amounts.{amount_at, place_of, row_place, at_place}
use Rattle.fare_bounds.specs.Payable.{CanBuy, CanPayLeg, CanPayChange, charge_of, AreLeastAmounts}
use Rattle.fare_bounds.specs.Levels.{with_at, without_at, end_at, CanMatch, counts, IsNextLevel}
use Rattle.fare_bounds.specs.FareBounds.{least_after, least_by}
use Rattle.fare_bounds.specs.Limits.{seconds_of, longest_limit, late_by, AreLimits}
use Rattle.fare_bounds.proofs.LimitLaws.{row_within, late_row}
use Rattle.fare_bounds.proofs.AmountLaws.{min_first, min_second, min_low, le_trans}

-- ---- what a move pays

-- a row of the product that is open can be bought for its amount
bought : (feed : FeedRows) (buyer : Buyer) (product : ProductId) (row : ProductRowId) →
    at_and feed.products row.0 (is_open product buyer) ≡ true → CanBuy feed buyer product (amount_of feed row)
unfolding amount_of
bought feed buyer product row right =
    let found = filled_and-true (slice_get feed.products row.0) (is_open product buyer) right in
    record {
      number = row.0;
      row = found.value;
      is = found.is;
      opens = found.passes;
      costs = sym (ap (λ o. option_map_or (λ r. r.amount.0) o (pos 0)) found.is);
    }

-- the leg can be paid for so much by the group of its rule
leg_paid : (feed : FeedRows) (buyer : Buyer) (leg : LegFacts) (pick : LegChoice) (chosen : FareLeg) →
    chosen_leg feed leg pick ≡ Some chosen → is_leg_choice feed buyer leg pick ≡ true →
    CanPayLeg feed buyer chosen.group (amount_of feed pick.product)
unfolding is_leg_choice
leg_paid feed buyer leg pick chosen is right =
    let rule =
    filled_and-true (slice_get feed.leg_rules pick.rule.0)
    (λ r. is_selected_rule feed leg r && at_and feed.products pick.product.0 (is_open r.product buyer)) right in
    let both = and_parts (is_selected_rule feed leg rule.value) _ rule.passes in
    let made : Some (record { group = rule.value.group; departure = leg.departure; arrival = leg.arrival }) ≡
    Some chosen =
    ap (option_map (λ r. record { group = r.group; departure = leg.departure; arrival = leg.arrival })) (sym rule.is)
    ∙ is in
    record {
      number = pick.rule.0;
      rule = rule.value;
      is = rule.is;
      of_group = ap (λ (l : FareLeg). l.group) (same_Some _ _ made);
      buys = bought feed buyer rule.value.product pick.product both.1;
    }

-- the change costs so much
change_paid : (feed : FeedRows) (buyer : Buyer) (product : Option ProductId) (row : Option ProductRowId) →
    is_change_product feed buyer product row ≡ true →
    CanPayChange feed buyer product (option_map_or (amount_of feed) row (pos 0))
change_paid feed buyer None None right = refl
change_paid feed buyer None (Some row) right = absurd (let no : false ≡ true = right in cc)
change_paid feed buyer (Some product) None right = absurd (let no : false ≡ true = right in cc)
change_paid feed buyer (Some product) (Some row) right = bought feed buyer product row right

-- so it is no less than what stands for it
charge_low : (feed : FeedRows) (buyer : Buyer) (amounts : LeastAmounts) → AreLeastAmounts feed buyer amounts →
    (product : Option ProductId) (charge : ℤ) → CanPayChange feed buyer product charge →
    charge_of amounts product ≤ℤ charge
charge_low feed buyer amounts least None charge pays = subst (λ (z : ℤ). pos 0 ≤ℤ z) (sym pays) (omega (arith, ints))
charge_low feed buyer amounts least (Some product) charge pays = (least.products product charge pays).above

-- ---- the groups of a change

can_match : (feed : FeedRows) (column : TransferRuleRow → Option LegGroupId) (field : Option LegGroupId)
    (group : LegGroupId) →
    group_matches feed column field group ≡ true → CanMatch field group
unfolding group_matches
can_match feed column None group is = tt
can_match feed column (Some own) group is = eqb-true own.0 group.0 is

-- a row that is selected can match the groups of both legs, and has no limit or one that holds
pub selected_matches : (feed : FeedRows) (change : AskedChange) (row : TransferRuleRow) →
    is_selected feed change row ≡ true →
    CanMatch row.from change.from × CanMatch row.to change.to × (empty_or row.limit change.holds ≡ true)
unfolding suffices is_candidate
selected_matches feed change row is =
    let enough = and_parts (suffices feed change row) (is_least_count feed change row.count) is in
    let candidate = and_parts (is_candidate feed change row) _ enough.0 in
    let groups =
    and_parts (group_matches feed (λ r. r.from) row.from change.from && group_matches feed (λ r. r.to) row.to change.to)
    (empty_or row.limit change.holds) candidate.0 in
    let both = and_parts (group_matches feed (λ r. r.from) row.from change.from)
    (group_matches feed (λ r. r.to) row.to change.to) groups.0 in (
      can_match feed (λ r. r.from) row.from change.from both.0,
      can_match feed (λ r. r.to) row.to change.to both.1,
      groups.1,
    )

-- the change that is asked about lies between the groups of the state and of the leg
pub asked_tells : (state : FareState) (next : FareLeg) (change : AskedChange) → asked_after state next ≡ Some change →
    (state.group ≡ Some change.from) × (next.group ≡ Some change.to)
asked_tells state next change is = by state.group next.group is
  where
    run : Run
    run = run_told state

    by : (a b : Option LegGroupId) →
        option_map
        (λ c. record (asked_change c) { holds = λ limit. has_clock state limit.kind && limit_holds c limit })
        (change_between run.first run.changes next a b) ≡ Some change → (a ≡ Some change.from) × (b ≡ Some change.to)
    by None b e = absurd (none-some change e)
    by (Some g) None e = absurd (none-some change e)
    by (Some g) (Some h) e =
        (ap (λ (c : AskedChange). Some c.from) (same_Some _ _ e), ap (λ (c : AskedChange). Some c.to) (same_Some _ _ e))

-- what stands for a group is at most what stands for the groups that a field matches which matches it
below_row : (amounts : List ℤ) (field : Option LegGroupId) (group : LegGroupId) → CanMatch field group →
    at_place amounts (place_of (Some group)) ≤ℤ amount_at amounts (row_place field)
below_row amounts field group matches =
    let apart : ((group.0 + 2) == 0) ≡ false = grind (arith, nat_tests) in
    rw apart (by field matches)
  where
    by : (field : Option LegGroupId) → CanMatch field group →
        int_min (amount_at amounts (group.0 + 2)) (amount_at amounts 1) ≤ℤ amount_at amounts (row_place field)
    by None matches = min_second (amount_at amounts (group.0 + 2)) (amount_at amounts 1)
    by (Some own) matches =
        subst (λ (n : ℕ). int_min (amount_at amounts (group.0 + 2)) (amount_at amounts 1) ≤ℤ amount_at amounts
        (n + 2)) (sym matches)
        (min_first (amount_at amounts (group.0 + 2)) (amount_at amounts 1))

-- ---- sums

-- what a journey costs at least that ends with so much paid and held, which adds this, or goes on from there by what
-- further rides add
abbrev least_of : ℤ → ℤ → ℤ → ℤ → ℤ → ℤ
least_of paid held end with without =
    int_min (paid +ℤ held +ℤ end) (int_min (paid +ℤ held +ℤ with) (paid +ℤ without))

-- what is at most the price with what a leg holds is at most all that follows
held_sum : (least paid held apart end with without : ℤ) → least ≤ℤ (paid +ℤ apart) →
    apart ≤ℤ (held +ℤ int_min with end) →
    apart ≤ℤ without → least ≤ℤ least_of paid held end with without
held_sum least paid held apart end with without le kept taken =
    min_low _ _ _ (goes end (int_min with end) kept (min_second with end))
    (min_low _ _ _ (goes with (int_min with end) kept (min_first with end)) (omega (arith, ints, le, taken)))
  where
    goes : (more z : ℤ) → apart ≤ℤ (held +ℤ z) → z ≤ℤ more → least ≤ℤ (paid +ℤ held +ℤ more)
    goes more z a b = omega (arith, ints, le, a, b)

-- what follows where nothing is held adds
abbrev rest_of : ℤ → ℤ → ℤ → ℤ
rest_of end with without = int_min (int_min with without) end

-- what is at most the price with what follows a leg that holds nothing is at most all that follows
paid_sum : (least paid end with without : ℤ) → least ≤ℤ (paid +ℤ rest_of end with without) →
    least ≤ℤ least_of paid (pos 0) end with without
paid_sum least paid end with without le =
    min_low _ _ _ (two end rest (min_second lesser end) le)
    (min_low _ _ _ (two with rest (le_trans _ _ _ (min_first lesser end) (min_first with without)) le)
    (three rest (le_trans _ _ _ (min_first lesser end) (min_second with without)) le))
  where
    lesser : ℤ
    lesser = int_min with without

    rest : ℤ
    rest = rest_of end with without

    two : (more z : ℤ) → z ≤ℤ more → least ≤ℤ (paid +ℤ z) → least ≤ℤ (paid +ℤ pos 0 +ℤ more)
    two more z a b = omega (arith, ints, a, b)

    three : (z : ℤ) → z ≤ℤ without → least ≤ℤ (paid +ℤ z) → least ≤ℤ (paid +ℤ without)
    three z a b = omega (arith, ints, a, b)

-- after a leg to which no change is arranged
apart_sum : (paid held amount apart end with without other : ℤ) → apart ≤ℤ (amount +ℤ int_min with end) →
    apart ≤ℤ without →
    int_min (paid +ℤ held +ℤ apart) other ≤ℤ
    least_of (paid +ℤ (pos 0 +ℤ held +ℤ pos 0 +ℤ pos 0)) amount end with without
apart_sum paid held amount apart end with without other kept taken =
    held_sum _ (paid +ℤ (pos 0 +ℤ held +ℤ pos 0 +ℤ pos 0)) amount apart end with without
    (le_trans _ _ _ (min_first (paid +ℤ held +ℤ apart) other) (omega (arith, ints))) kept taken

-- after a first leg
first_sum : (paid amount apart end with without : ℤ) → apart ≤ℤ (amount +ℤ int_min with end) → apart ≤ℤ without →
    (paid +ℤ apart) ≤ℤ least_of (paid +ℤ pos 0) amount end with without
first_sum paid amount apart end with without kept taken =
    held_sum (paid +ℤ apart) (paid +ℤ pos 0) amount apart end with without (omega (arith, ints)) kept taken

-- what is paid after a change, by whether it takes back what is held and whether it includes the leg
abbrev paid_by : Bool → Bool → ℤ → ℤ → ℤ → ℤ
paid_by alone free held charge amount =
    pos 0 +ℤ (if alone then pos 0 else held) +ℤ charge +ℤ (if free then pos 0 else amount)

-- what stands for the change with what follows, where it includes the leg or not
abbrev added : Bool → ℤ → ℤ → ℤ → ℤ
added free charge amount rest = charge +ℤ (if free then rest else amount +ℤ rest)

-- after a leg to which such a change is arranged
change_sum : (alone free : Bool) (paid held amount charge end with without before taken : ℤ) →
    (alone ≡ true → taken ≤ℤ added free charge amount (rest_of end with without)) →
    (alone ≡ false → before ≤ℤ added free charge amount (rest_of end with without)) →
    int_min (paid +ℤ held +ℤ before) (paid +ℤ taken) ≤ℤ
    least_of (paid +ℤ paid_by alone free held charge amount) (pos 0) end with without
change_sum alone free paid held amount charge end with without before taken first other =
    paid_sum _ (paid +ℤ paid_by alone free held charge amount) end with without
    (by alone free (rest_of end with without) first other)
  where
    least : ℤ
    least = int_min (paid +ℤ held +ℤ before) (paid +ℤ taken)

    back : (z w : ℤ) → taken ≤ℤ z → (paid +ℤ z) ≡ w → least ≤ℤ w
    back z w le is =
        le_trans _ (paid +ℤ taken) _ (min_second (paid +ℤ held +ℤ before) (paid +ℤ taken)) (omega (arith, ints, le, is))

    kept : (z w : ℤ) → before ≤ℤ z → (paid +ℤ held +ℤ z) ≡ w → least ≤ℤ w
    kept z w le is =
        le_trans _ (paid +ℤ held +ℤ before) _ (min_first (paid +ℤ held +ℤ before) (paid +ℤ taken))
        (omega (arith, ints, le, is))

    by : (alone free : Bool) (rest : ℤ) → (alone ≡ true → taken ≤ℤ added free charge amount rest) →
        (alone ≡ false → before ≤ℤ added free charge amount rest) →
        least ≤ℤ (paid +ℤ paid_by alone free held charge amount +ℤ rest)
    by true true rest first other = back (charge +ℤ rest) _ (first refl) (omega (arith, ints))
    by true false rest first other = back (charge +ℤ (amount +ℤ rest)) _ (first refl) (omega (arith, ints))
    by false true rest first other = kept (charge +ℤ rest) _ (other refl) (omega (arith, ints))
    by false false rest first other = kept (charge +ℤ (amount +ℤ rest)) _ (other refl) (omega (arith, ints))

-- ---- moves

-- a chosen leg has the moments of the leg
chosen_times : (feed : FeedRows) (leg : LegFacts) (pick : LegChoice) (chosen : FareLeg) →
    chosen_leg feed leg pick ≡ Some chosen → (chosen.departure ≡ leg.departure) × (chosen.arrival ≡ leg.arrival)
chosen_times feed leg pick chosen is = by (slice_get feed.leg_rules pick.rule.0) is
  where
    by : (rule : Option LegRuleRow) →
        option_map (λ r. record { group = r.group; departure = leg.departure; arrival = leg.arrival }) rule ≡
        Some chosen →
        (chosen.departure ≡ leg.departure) × (chosen.arrival ≡ leg.arrival)
    by None e = absurd (none-some chosen e)
    by (Some rule) e =
        let same = same_Some _ _ e in
        (ap (λ (l : FareLeg). l.departure) (sym same), ap (λ (l : FareLeg). l.arrival) (sym same))

-- each row counts that is selected for the change from the state to the leg
abbrev AllCount : FeedRows → Bool → FareState → FareLeg → Type 0
AllCount feed late state next =
    (change : AskedChange) → asked_after state next ≡ Some change → (number : ℕ) (row : TransferRuleRow) →
    slice_get feed.transfer_rules number ≡ Some row → is_selected feed change row ≡ true → counts late row ≡ true

-- the same of each leg with these moments
abbrev pub AllCountTo : FeedRows → Bool → Option FareState → LegFacts → Type 0
AllCountTo feed late state leg =
    ForSome state (λ own. (next : FareLeg) → next.departure ≡ leg.departure → next.arrival ≡ leg.arrival →
    AllCount feed late own next)

-- rows without limit are all that can be selected for a change to a leg that departs late
pub late_counts : (feed : FeedRows) (limits : List ℕ) (state : Option FareState) (leg : LegFacts) →
    AreLimits feed limits →
    ForSome (option_and_then (late_by limits) state) (λ moment. moment <ℤ leg.departure.0) →
    leg.departure.0 ≤ℤ leg.arrival.0 → AllCountTo feed true state leg
late_counts feed limits state leg are past order own is next departs arrives change asked number row at selected =
    let groups = asked_tells own next change asked in
    let matches = selected_matches feed change row selected in
    late_row limits own next change row asked matches.2
    (subst (λ (g : Option LegGroupId). seconds_of row.limit ≤ longest_limit limits g) (sym groups.0)
    (row_within limits row change.from matches.0 (are number row at)))
    (λ moment e. subst (λ (m : Moment). moment <ℤ m.0) (sym departs)
    (past moment (ap (option_and_then (late_by limits)) is ∙ e)))
    (subst (λ (m : Moment). m.0 ≤ℤ next.arrival.0) (sym departs)
    (subst (λ (m : Moment). leg.departure.0 ≤ℤ m.0) (sym arrives) order))

module _ (feed : FeedRows) (late : Bool) (buyer : Buyer) (amounts : LeastAmounts) (before level : Level)
    (least : AreLeastAmounts feed buyer amounts) (next_level : IsNextLevel feed late amounts before level) where
  -- what follows a leg of the group costs no less than this, by what is paid and held then
  abbrev IsStep : ℤ → Option LegGroupId → ℤ → ℤ → Type 0
  IsStep told group paid held =
      told ≤ℤ int_min (paid +ℤ held +ℤ end_at amounts (place_of group)) (least_after before group paid held)

  -- after a leg to which no change is arranged
  apart_step : (group next : Option LegGroupId) (paid held amount : ℤ) → CanPayLeg feed buyer next amount →
      IsStep (least_after level group paid held) next (paid +ℤ (pos 0 +ℤ held +ℤ pos 0 +ℤ pos 0)) amount
  apart_step group next paid held amount pays =
      let apart = next_level.apart group next amount (least.legs next amount pays) in
      apart_sum paid held amount (with_at level (place_of group)) (end_at amounts (place_of next))
      (with_at before (place_of next)) (without_at before (place_of next))
      (paid +ℤ without_at level (place_of group)) apart.kept apart.taken_back

  -- after a leg to which a change of the row is arranged
  change_step : (number : ℕ) (row : TransferRuleRow) (group next : LegGroupId) (paid held amount charge : ℤ) →
      slice_get feed.transfer_rules number ≡ Some row → counts late row ≡ true →
      CanMatch row.from group → CanMatch row.to next → CanPayLeg feed buyer (Some next) amount →
      CanPayChange feed buyer row.product charge →
      IsStep (least_after level (Some group) paid held) (Some next)
      (paid +ℤ next_paid (pos 0) held (Some row.kind) amount charge)
      (next_held (Some row.kind) amount)
  change_step number row group next paid held amount charge is counted from to pays pays_change =
      let above =
      next_level.rows number row is next amount charge counted to (least.legs (Some next) amount pays)
      (charge_low feed buyer amounts least row.product charge pays_change) in
      change_sum (row.kind == change_alone) (includes_leg_after row.kind) paid held amount charge
      (end_at amounts (place_of (Some next))) (with_at before (place_of (Some next)))
      (without_at before (place_of (Some next)))
      (with_at level (place_of (Some group)))
      (without_at level (place_of (Some group)))
      (λ alone. le_trans _ _ _ (below_row level.without_held.items row.from group from) (above.taken_back alone))
      (λ other. le_trans _ _ _ (below_row level.with_held.items row.from group from) (above.paid other))

  -- after a first leg
  first_step : (next : Option LegGroupId) (paid amount : ℤ) → CanPayLeg feed buyer next amount →
      IsStep (paid +ℤ with_at level (place_of None)) next (paid +ℤ pos 0) amount
  first_step next paid amount pays =
      let apart = next_level.apart None next amount (least.legs next amount pays) in
      first_sum paid amount (with_at level (place_of None)) (end_at amounts (place_of next))
      (with_at before (place_of next)) (without_at before (place_of next)) apart.kept apart.taken_back

  -- after a next leg, by the place of the change to it
  next_step : (state : FareState) (paid held : ℤ) (next : FareLeg) (amount : ℤ) (place : Option ChangeChoice) →
      AllCount feed late state next → CanPayLeg feed buyer next.group amount →
      is_place_after feed buyer (asked_after state next) place ≡ true →
      IsStep (least_after level state.group paid held) next.group
      (paid +ℤ next_paid (pos 0) held (place_kind feed place) amount (place_charge feed place))
      (next_held (place_kind feed place) amount)
  unfolding is_row_after
  next_step state paid held next amount None all pays right = apart_step state.group next.group paid held amount pays
  next_step state paid held next amount (Some pick) all pays right =
      let asked = filled_and-true (asked_after state next) (λ c. is_row_after feed buyer c pick) right in
      let groups = asked_tells state next asked.value asked.is in
      let row =
      filled_and-true (slice_get feed.transfer_rules pick.rule.0)
      (λ r. is_selected feed asked.value r && is_change_product feed buyer r.product pick.product) asked.passes in
      let both = and_parts (is_selected feed asked.value row.value) _ row.passes in
      let matches = selected_matches feed asked.value row.value both.0 in
      by asked.value.from asked.value.to row.value
      (place_kind feed (Some pick)) state.group next.group groups.0 groups.1
      (ap (option_map (λ r. r.kind)) row.is) row.is (all asked.value asked.is pick.rule.0 row.value row.is both.0)
      matches.0 matches.1 pays
      (change_paid feed buyer row.value.product pick.product both.1)
    where
      by : (from to : LegGroupId) (row : TransferRuleRow) (kind : Option ℕ) (a b : Option LegGroupId) →
          a ≡ Some from → b ≡ Some to →
          kind ≡ Some row.kind → slice_get feed.transfer_rules pick.rule.0 ≡ Some row → counts late row ≡ true →
          CanMatch row.from from → CanMatch row.to to →
          CanPayLeg feed buyer b amount → CanPayChange feed buyer row.product (place_charge feed (Some pick)) →
          IsStep (least_after level a paid held) b
          (paid +ℤ next_paid (pos 0) held kind amount (place_charge feed (Some pick))) (next_held kind amount)
      by from to row kind a b is_a is_b is_kind is counted from_matches to_matches pays_leg pays_change =
          rw (is_a, is_b, is_kind)
          (change_step pick.rule.0 row from to paid held amount
          (place_charge feed (Some pick)) is counted from_matches to_matches
          (subst (λ (g : Option LegGroupId). CanPayLeg feed buyer g amount) is_b pays_leg) pays_change)

  -- no move leads below what is told before it
  pub level_step : (state : Option FareState) (paid held : ℤ) (leg : LegFacts) (move : Move) →
      move_after feed buyer state held leg move ≡ Some move → AllCountTo feed late state leg →
      least_by level state paid held ≤ℤ
      int_min (paid +ℤ move.paid.0 +ℤ move.held.0 +ℤ end_at amounts (place_of move.state.group))
      (least_after before move.state.group (paid +ℤ move.paid.0) move.held.0)
  level_step None paid held leg move is all =
      let m = first_tells feed buyer leg move is in
      subst (λ (q : Move). IsStep (least_by level None paid held) q.state.group (paid +ℤ q.paid.0) q.held.0) m.follows
      (first_step m.first.group paid (amount_of feed move.product)
      (leg_paid feed buyer leg (leg_taken move) m.first m.chosen m.paid_leg))
  level_step (Some state) paid held leg move is all =
      let m = next_tells feed buyer state held leg move is in
      let times = chosen_times feed leg (leg_taken move) m.next m.chosen in
      let amount = amount_of feed move.product in
      let kind = place_kind feed (place_taken move) in
      let charge = place_charge feed (place_taken move) in
      subst (λ (q : Move). IsStep (least_after level state.group paid held) q.state.group (paid +ℤ q.paid.0) q.held.0)
      m.follows
      (subst
      (λ (g : Option LegGroupId). IsStep (least_after level state.group paid held) g
      (paid +ℤ next_paid (pos 0) held kind amount charge) (next_held kind amount))
      (sym (next_group feed state m.next (place_taken move)))
      (next_step state paid held m.next amount (place_taken move) (all state refl m.next times.0 times.1)
      (leg_paid feed buyer leg (leg_taken move) m.next m.chosen m.paid_leg) m.right_place))
