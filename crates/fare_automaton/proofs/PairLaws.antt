-- The rows that stand at the places of pairs of leg groups.
use Rattle.std.proofs.Common.{◌≡◌, refl, sym, ◌∙◌, ap, subst, ℕ, ◌+◌, ◌*◌, ◌/◌, ◌%◌, ◌<◌, ◌≤◌, ◌⊎◌, inl, inr, Bool, true, false, List, [], ◌∷◌, ◌++◌, length, arith}
use Rattle.std.specs.Prelude.{nat_lt, slice_get, Some}
use Rattle.std.proofs.lemmas.Bool.{cases_lt}
use Rattle.std.proofs.lemmas.Bool.Decides.{nat_tests}
use Rattle.std.proofs.lemmas.List.{length_push}
use Rattle.std.proofs.lemmas.Option.{same_Some, slice_get_within}
use Rattle.transit_base.specs.declared.numbers.LegGroupId.{LegGroupId}
use Rattle.feed_rows.specs.FeedRows.{FeedRows}
use Rattle.plain_laws.specs.Plain.{when}
use Rattle.plain_laws.proofs.Laws.{slice_get-push_before, slice_get-push_last}
use Rattle.fare_transfer_rules.specs.declared.groups.ClassedRow.{ClassedRow}
use Rattle.fare_transfer_rules.specs.BuiltTransferRules.{AreRowsBetween}
use Rattle.fare_automaton.specs.Compiled.{ArePairRows, place_of}

-- the groups of a place
placed : (from to : LegGroupId) (place : ℕ) → place_of from to ≡ Some place
    → (place / 64 ≡ from.0) × (place % 64 ≡ to.0)
placed from to place is = by (nat_lt to.0 64) refl is
  where
    by : (b : Bool) → nat_lt to.0 64 ≡ b → when b (from.0 * 64 + to.0) ≡ Some place
        → (place / 64 ≡ from.0) × (place % 64 ≡ to.0)
    by false past e = absurd (cc)
    by true within e =
        let same : from.0 * 64 + to.0 ≡ place = same_Some _ _ e in
        let lt : to.0 < 64 = grind (arith, nat_tests, within) in
        (omega (arith, same, lt), omega (arith, same, lt))

-- one place more
pub pairs_more : (feed : FeedRows) (pairs more : List (List ClassedRow)) (rows : List ClassedRow) (n : ℕ)
    → length pairs ≡ n → ArePairRows feed pairs
    → AreRowsBetween feed (record { 0 = n / 64 }) (record { 0 = n % 64 }) rows → more ≡ pairs ++ rows ∷ []
    → ArePairRows feed more
pairs_more feed pairs more rows n long before are push from to place own is_place at = step (cases_lt place n)
  where
    pushed : slice_get (pairs ++ rows ∷ []) place ≡ Some own
    pushed = sym (ap (λ rs. slice_get rs place) push) ∙ at

    step : (place < n) ⊎ (n ≤ place) → AreRowsBetween feed from to own
    step (inl lt) =
        before from to place own is_place (sym (slice_get-push_before pairs rows place (omega arith)) ∙ pushed)
    step (inr past) =
        let within = slice_get_within (pairs ++ rows ∷ []) place own pushed in
        let last : n ≡ place = omega (arith, within, length_push pairs rows) in
        let new = slice_get-push_last pairs rows place (omega arith) in
        let same : rows ≡ own = same_Some rows own (sym new ∙ pushed) in
        let groups = placed from to place is_place in
        let is_from : n / 64 ≡ from.0 = ap (λ k. k / 64) last ∙ groups.0 in
        let is_to : n % 64 ≡ to.0 = ap (λ k. k % 64) last ∙ groups.1 in
        subst (λ (f : ℕ). AreRowsBetween feed (record { 0 = f }) to own) is_from
        (subst (λ (t : ℕ). AreRowsBetween feed (record { 0 = n / 64 }) (record { 0 = t }) own) is_to
        (subst (AreRowsBetween feed (record { 0 = n / 64 }) (record { 0 = n % 64 })) same are))
