-- Lists of moves that are exactly those which there are, or which extend a choice, and lists that aren't, each for one
-- reason.
use Rattle.std.proofs.Common.{◌≡◌, refl, sym, ◌∙◌, ap, subst, ℕ, zero, suc, ◌<◌, Bool, true, false, List, [], ◌∷◌, length, arith}
use Rattle.std.specs.Prelude.{Option, Some, None, ℤ, pos, All, AllPairs, Contains, slice_index_or}
use Rattle.std.proofs.lemmas.Int.{ints}
use Rattle.std.proofs.lemmas.Option.{same_Some, none-some}
use Rattle.transit_base.specs.declared.moments.Money.{Money}
use Rattle.transit_base.specs.declared.numbers.ProductRowId.{ProductRowId}
use Rattle.transit_base.specs.declared.numbers.XferId.{XferId}
use Rattle.feed_rows.specs.declared.fares.ChangeChoice.{ChangeChoice}
use Rattle.feed_rows.specs.declared.fares.Choice.{Choice}
use Rattle.feed_rows.specs.declared.fares.LegChoice.{LegChoice}
use Rattle.feed_rows.specs.declared.states.FareState.{FareState}
use Rattle.feed_rows.specs.declared.states.Move.{Move}
use Rattle.feed_rows.specs.FeedRows.{FeedRows}
use Rattle.feed_rows.specs.LegRules.{network_matches, area_matches, frame_matches, rule_matches, is_top_priority, is_selected_rule}
use Rattle.feed_rows.specs.TransferRules.{group_matches, limit_holds, is_candidate, suffices, is_least_count, is_selected_transfer, is_arranged, goes_on, run_start, change_at}
use Rattle.feed_rows.specs.FareChoices.{is_open, is_leg_choice, is_transfer_choice, is_leg_paid, is_change_paid, is_fare_choice}
use Rattle.feed_rows.specs.FareSums.{transfer_kind, starts_chain, is_charged, amount_of, leg_charge, change_charge, fare_sum}
use Rattle.feed_rows.specs.FareStates.{held_amount, paid_amount, greatest_count, is_clock_read, fare_state}
use Rattle.feed_rows.specs.FareSteps.{move_of_first, move_after, AreMovesAfter}
use Rattle.feed_rows.specs.FareExtensions.{extended, Extends, AreExtensions}
use Rattle.feed_laws.proofs.StandLaws.{places_of_paid}
use Rattle.feed_examples.specs.BaseFeed.{base, ticket, network_rule, no_category}
use Rattle.feed_examples.proofs.WorkedEntries.{leg, paid}
use Rattle.feed_examples.proofs.WorkedStates.{leg_1, leg_2, bus_1, bus_2, bus_3, state, taken, one_choice, rail_state}

-- the move of T1 as a first leg
abbrev first : Move
first = record (taken 0 0 None None) { state = state (Some 0) 0 None None true; paid = record { 0 = pos 0 }; held = record { 0 = pos 250 } }

-- equal numbers
abbrev Same : ℕ → ℕ → Type 0
Same m n = m ≡ n

-- a property of the one item of a list
one_item : {X : Type 0} (P : X → Type 0) (x : X) → P x → All P (x ∷ [])
one_item P x holds zero d lt = holds
one_item P x holds (suc k) d lt = absurd (omega (arith, lt))

no_pair : {X : Type 0} (R : X → X → Type 0) (x : X) → AllPairs R (x ∷ [])
no_pair R x i j d lt lt' = absurd (omega (arith, lt, lt'))

-- ---- the moves of a first leg

-- no other move is one
only_first : (s : FareState) (spent : Money) (back : Money) (r p : ℕ) (x : Option XferId) (row : Option ProductRowId) →
    move_of_first base no_category leg_1 (record { state = s; paid = spent; held = back; rule = record { 0 = r }; product = record { 0 = p }; xfer = x; xfer_product = row })
    ≡ Some (record { state = s; paid = spent; held = back; rule = record { 0 = r }; product = record { 0 = p }; xfer = x; xfer_product = row })
    → first ≡ record { state = s; paid = spent; held = back; rule = record { 0 = r }; product = record { 0 = p }; xfer = x; xfer_product = row }
unfolding move_of_first greatest_count is_clock_read group_matches network_matches area_matches frame_matches rule_matches is_top_priority is_selected_rule is_open is_leg_choice amount_of
only_first s spent back zero zero None None is = same_Some _ _ is
only_first s spent back zero zero None (Some row) is = absurd (none-some _ is)
only_first s spent back zero zero (Some x) row is = absurd (none-some _ is)
only_first s spent back zero (suc zero) x row is = absurd (none-some _ is)
only_first s spent back zero (suc (suc zero)) x row is = absurd (none-some _ is)
only_first s spent back zero (suc (suc (suc p))) x row is = absurd (none-some _ is)
only_first s spent back (suc zero) p x row is = absurd (none-some _ is)
only_first s spent back (suc (suc r)) p x row is = absurd (none-some _ is)

abbrev AreFirst : List Move → Type 0
AreFirst moves = AreMovesAfter base no_category None (pos 0) leg_1 moves

record FirstMoves : Type 0 where
  pub exact : AreFirst (first ∷ [])
  -- a move is lacking, stands twice, says another amount, or is none
  pub lacking : AreFirst [] → ⊥
  pub twice : AreFirst (first ∷ first ∷ []) → ⊥
  pub dearer : AreFirst (record first { held = record { 0 = pos 251 } } ∷ []) → ⊥
  pub other : AreFirst (first ∷ record first { rule = record { 0 = 1 } } ∷ []) → ⊥

held_of : Option Move → ℤ
held_of None = pos 7
held_of (Some move) = move.held.0

first_moves : FirstMoves
unfolding held_of move_of_first greatest_count is_clock_read group_matches network_matches area_matches frame_matches rule_matches is_top_priority is_selected_rule is_open is_leg_choice amount_of
first_moves = record {
  exact = record {
    right = one_item (λ move. move_after base no_category None (pos 0) leg_1 move ≡ Some move) first refl;
    all = λ move is. (0, omega arith, only_first move.state move.paid move.held move.rule.0 move.product.0 move.xfer move.xfer_product is);
    once = no_pair (λ (a b : Move). a ≡ b → ⊥) first;
  };
  lacking = λ a. let c = a.all first refl in let lt = c.1 in absurd (omega (arith, lt));
  twice = λ a. a.once 0 1 first (omega arith) (omega arith) refl;
  dearer = λ a. let no : pos 250 ≡ pos 251 = ap held_of (a.right 0 first (omega arith)) in absurd (omega (arith, ints, no));
  other = λ a. absurd (none-some _ (a.right 1 first (omega arith)));
}

-- ---- the moves that extend a choice

abbrev no_choice : Choice
no_choice = paid [] []

-- T2 after T1
abbrev second : Move
second = record (taken 1 1 (Some 0) (Some 2)) { state = rail_state false; paid = record { 0 = pos 300 }; held = record { 0 = pos 0 } }

abbrev ExtendsT1 : Move → Type 0
ExtendsT1 move = Extends base no_category (leg_1 ∷ []) one_choice leg_2 move

record ExtensionChecks : Type 0 where
  pub of_none : Extends base no_category [] no_choice leg_1 first
  pub of_first : ExtendsT1 second
  -- other amounts, another state, and what doesn't pay
  pub paid_other : ExtendsT1 (record second { paid = record { 0 = pos 301 } }) → ⊥
  pub held_other : ExtendsT1 (record second { held = record { 0 = pos 400 } }) → ⊥
  pub state_other : ExtendsT1 (record second { state = rail_state true }) → ⊥
  pub not_whole : Extends base no_category [] no_choice leg_1 (record first { xfer_product = Some (record { 0 = 2 }) }) → ⊥
  pub change_before_first : Extends base no_category [] no_choice leg_1 (record first { xfer = Some (record { 0 = 0 }); xfer_product = Some (record { 0 = 2 }) }) → ⊥
  pub unpaid : ExtendsT1 (record second { xfer = None; xfer_product = None }) → ⊥

is_first : Option FareState → Bool
is_first None = false
is_first (Some s) = s.first

extension_checks : ExtensionChecks
unfolding is_first held_amount paid_amount greatest_count is_clock_read fare_state group_matches limit_holds is_candidate suffices is_least_count is_selected_transfer is_arranged goes_on run_start change_at network_matches area_matches frame_matches rule_matches is_top_priority is_selected_rule is_open is_leg_choice is_transfer_choice is_leg_paid is_change_paid is_fare_choice transfer_kind starts_chain is_charged amount_of leg_charge change_charge fare_sum
extension_checks = record {
  of_none = record { whole = refl; pays = refl; paid = refl; held = refl; state = refl };
  of_first = record { whole = refl; pays = refl; paid = refl; held = refl; state = refl };
  paid_other = λ e. let no : pos 300 ≡ pos 301 = e.paid in absurd (omega (arith, ints, no));
  held_other = λ e. let no : pos 0 ≡ pos 400 = e.held in absurd (omega (arith, ints, no));
  state_other = λ e. let no : false ≡ true = ap is_first e.state in absurd (cc);
  not_whole = λ e. let no : false ≡ true = e.whole in absurd (cc);
  change_before_first = λ e. let no : false ≡ true = e.pays in absurd (cc);
  unpaid = λ e. let no : false ≡ true = e.pays in absurd (cc);
}

-- base with two tickets for a bus, and no transfer rules
abbrev two_tickets : FeedRows
two_tickets =
    record base {
      products = ticket 0 250 ∷ record (ticket 0 200) { medium = Some (record { 0 = 0 }) } ∷ [];
      leg_rules = network_rule 0 0 0 ∷ [];
      transfer_rules = [];
    }

-- a second bus by the ticket of this row, which costs so much
abbrev by_row : ℕ → ℤ → Move
by_row row amount =
    record (taken 0 row None None) { state = state (Some 0) 0 None None true; paid = record { 0 = pos 250 }; held = record { 0 = amount } }

-- a move that has this choice
abbrev IsMade : List Move → Choice → Type 0
IsMade moves longer = (move : Move) × Contains moves move × (longer ≡ extended one_choice move)

abbrev both : List Move
both = by_row 0 (pos 250) ∷ by_row 1 (pos 200) ∷ []

-- each choice of two buses that begins with the first ticket is made by one of two moves
made : (r p : ℕ) (rest : List LegChoice) (places : List (Option ChangeChoice)) → length rest ≡ 0 → length places ≡ 1 →
    is_fare_choice two_tickets (bus_1 ∷ bus_2 ∷ []) (record { legs = leg 0 0 ∷ leg r p ∷ rest; changes = places }) no_category ≡ true
    → IsMade both (record { legs = leg 0 0 ∷ leg r p ∷ rest; changes = places })
unfolding is_leg_paid is_change_paid is_fare_choice change_at goes_on run_start is_arranged is_transfer_choice network_matches area_matches frame_matches rule_matches is_top_priority is_selected_rule is_open is_leg_choice
made zero zero [] (None ∷ []) e f is = (by_row 0 (pos 250), (0, omega arith, refl), refl)
made zero (suc zero) [] (None ∷ []) e f is = (by_row 1 (pos 200), (1, omega arith, refl), refl)
made zero zero [] (Some q ∷ []) e f is = absurd (let no : false ≡ true = is in cc)
made zero (suc zero) [] (Some q ∷ []) e f is = absurd (let no : false ≡ true = is in cc)
made zero (suc (suc p)) [] (place ∷ []) e f is = absurd (let no : false ≡ true = is in cc)
made (suc r) p [] (place ∷ []) e f is = absurd (let no : false ≡ true = is in cc)
made r p [] [] e f is = absurd (omega (arith, f))
made r p [] (place ∷ other ∷ places) e f is = absurd (omega (arith, f))
made r p (pick ∷ rest) places e f is = absurd (omega (arith, e))

-- the same for choices that are given by their lists
made_by : (rest : List LegChoice) (longer : Choice) → longer.legs ≡ leg 0 0 ∷ rest →
    is_fare_choice two_tickets (bus_1 ∷ bus_2 ∷ []) longer no_category ≡ true → IsMade both longer
made_by [] longer legs pays =
    let long = (places_of_paid two_tickets no_category (bus_1 ∷ bus_2 ∷ []) longer pays).0 in
    let short = ap length legs in
    absurd (omega (arith, long, short))
made_by (pick ∷ rest) longer legs pays =
    let long = places_of_paid two_tickets no_category (bus_1 ∷ bus_2 ∷ []) longer pays in
    let short = ap length legs in
    let many = long.0 in
    let changes = long.1 in
    let same : longer ≡ record { legs = leg 0 0 ∷ pick ∷ rest; changes = longer.changes } =
    ap (λ (l : List LegChoice). record { legs = l; changes = longer.changes }) legs in
    subst (IsMade both) (sym same)
    (made pick.rule.0 pick.product.0 rest longer.changes (omega (arith, many, short)) (omega (arith, changes))
    (subst (λ (c : Choice). is_fare_choice two_tickets (bus_1 ∷ bus_2 ∷ []) c no_category ≡ true) same pays))

-- the second product row of a choice
abbrev second_row : Choice → ℕ
second_row c = row_of c.legs
  where
    row_of : List LegChoice → ℕ
    row_of (a ∷ b ∷ rest) = b.product.0
    row_of (a ∷ []) = 9
    row_of [] = 9

abbrev ExtendBus : List Move → Type 0
ExtendBus moves = AreExtensions two_tickets no_category (bus_1 ∷ []) one_choice bus_2 moves

-- a third bus after two tickets, of which the first is paid and the second held
third : Extends two_tickets no_category (bus_1 ∷ bus_2 ∷ []) (paid (leg 0 0 ∷ leg 0 0 ∷ []) (None ∷ [])) bus_3 (by_row 0 (pos 250))
unfolding held_amount paid_amount greatest_count is_clock_read fare_state group_matches limit_holds is_candidate suffices is_least_count is_selected_transfer is_arranged goes_on run_start change_at network_matches area_matches frame_matches rule_matches is_top_priority is_selected_rule is_open is_leg_choice is_transfer_choice is_leg_paid is_change_paid is_fare_choice transfer_kind starts_chain is_charged amount_of leg_charge change_charge fare_sum
third = record { whole = refl; pays = refl; paid = refl; held = refl; state = refl }

record ExtensionLists : Type 0 where
  pub exact : ExtendBus both
  -- one is lacking, stands twice, or says another amount
  pub lacking : ExtendBus (by_row 0 (pos 250) ∷ []) → ⊥
  pub twice : ExtendBus (by_row 0 (pos 250) ∷ by_row 1 (pos 200) ∷ by_row 0 (pos 250) ∷ []) → ⊥
  pub dearer : ExtendBus (by_row 0 (pos 251) ∷ by_row 1 (pos 200) ∷ []) → ⊥

two_items : {X : Type 0} (P : X → Type 0) (x y : X) → P x → P y → All P (x ∷ y ∷ [])
two_items P x y holds holds' zero d lt = holds
two_items P x y holds holds' (suc zero) d lt = holds'
two_items P x y holds holds' (suc (suc k)) d lt = absurd (omega (arith, lt))

one_pair : {X : Type 0} (R : X → X → Type 0) (x y : X) → R x y → AllPairs R (x ∷ y ∷ [])
one_pair R x y holds zero (suc zero) d lt lt' = holds
one_pair R x y holds zero zero d lt lt' = absurd (omega (arith, lt))
one_pair R x y holds i (suc (suc j)) d lt lt' = absurd (omega (arith, lt'))
one_pair R x y holds (suc i) zero d lt lt' = absurd (omega (arith, lt))
one_pair R x y holds (suc i) (suc zero) d lt lt' = absurd (omega (arith, lt))

extension_lists : ExtensionLists
unfolding held_amount paid_amount greatest_count is_clock_read fare_state group_matches limit_holds is_candidate suffices is_least_count is_selected_transfer is_arranged goes_on run_start change_at network_matches area_matches frame_matches rule_matches is_top_priority is_selected_rule is_open is_leg_choice is_transfer_choice is_leg_paid is_change_paid is_fare_choice transfer_kind starts_chain is_charged amount_of leg_charge change_charge fare_sum
extension_lists = record {
  exact = record {
    right = two_items (Extends two_tickets no_category (bus_1 ∷ []) one_choice bus_2) (by_row 0 (pos 250)) (by_row 1 (pos 200))
        (record { whole = refl; pays = refl; paid = refl; held = refl; state = refl }) (record { whole = refl; pays = refl; paid = refl; held = refl; state = refl });
    all = λ longer pays begins. made_by begins.legs.0 longer begins.legs.1 pays;
    once = one_pair (λ (a b : Move). extended one_choice a ≡ extended one_choice b → ⊥) (by_row 0 (pos 250)) (by_row 1 (pos 200))
        (λ e. let no : Same 0 1 = ap second_row e in absurd (omega (arith, no)));
  };
  lacking = λ a.
      let c = a.all (paid (leg 0 0 ∷ leg 0 1 ∷ []) (None ∷ [])) refl
      (record { legs = (leg 0 1 ∷ [], refl); changes = (None ∷ [], refl) }) in
      let row = by_first c.0 c.1.0 c.1.1 c.1.2 in
      let no : Same 1 0 = ap second_row c.2 ∙ ap (λ (m : Move). m.product.0) (sym row) in
      absurd (omega (arith, no));
  twice = λ a. a.once 0 2 (by_row 0 (pos 250)) (omega arith) (omega arith) refl;
  dearer = λ a. let no : pos 250 ≡ pos 251 = (a.right 0 (by_row 0 (pos 251)) (omega arith)).held in absurd (omega (arith, ints, no));
}
  where
    by_first : (m : Move) (k : ℕ) → k < 1 → slice_index_or (by_row 0 (pos 250) ∷ []) k m ≡ m → by_row 0 (pos 250) ≡ m
    by_first m zero lt is = is
    by_first m (suc k) lt is = absurd (omega (arith, lt))
