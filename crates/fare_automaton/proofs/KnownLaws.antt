-- What it is enough to pay for a leg is decided by all but its moments.
use Rattle.std.proofs.Common.{◌≡◌, refl, sym, ◌∙◌, ap, subst, ℕ, ◌<◌, List, [], ◌∷◌, ◌++◌, length, All, Option, Some, None}
use Rattle.std.specs.Prelude.{slice_get, option_map, Result, Ok, Err, IfOk, OnOk, OnErr}
use Rattle.std.specs.declared.alloc.AllocError.{AllocError}
use Rattle.std.proofs.lemmas.List.Elements.{All-push}
use Rattle.std.specs.Option.{option_map_or}
use Rattle.std.proofs.lemmas.Option.{same_Some, slice_get_within}
use Rattle.feed_rows.specs.declared.journeys.Buyer.{Buyer}
use Rattle.feed_rows.specs.declared.fares.LegChoice.{LegChoice}
use Rattle.feed_rows.specs.declared.journeys.LegFacts.{LegFacts}
use Rattle.feed_rows.specs.FeedRows.{FeedRows}
use Rattle.feed_rows.specs.FareChoices.{is_leg_choice}
use Rattle.feed_rows.specs.LegRules.{rule_matches, is_top_priority, is_selected_rule}
use Rattle.plain_laws.proofs.Laws.{All-slice_get, slice_get-push_before, slice_get-push_last}
use Rattle.leg_kinds.specs.Kinds.{timeless, KindList, kept_for, items_at, IsOfKind}
use Rattle.fare_automaton.specs.Fewest.{AreEnough}
use Rattle.fare_automaton.specs.Terms.{FareTerms}
use Rattle.fare_automaton.specs.Known.{HasPicks}

-- moments decide nothing
timeless_choice : (feed : FeedRows) (buyer : Buyer) (leg : LegFacts) (pick : LegChoice) →
    is_leg_choice feed buyer (timeless leg) pick ≡ is_leg_choice feed buyer leg pick
unfolding is_leg_choice is_selected_rule rule_matches is_top_priority
timeless_choice feed buyer leg pick = refl

pub with_moments : (feed : FeedRows) (buyer : Buyer) (leg : LegFacts) (picks : List LegChoice) →
    AreEnough feed buyer (timeless leg) picks → AreEnough feed buyer leg picks
with_moments feed buyer leg picks are = record {
  right = λ k d lt. sym (timeless_choice feed buyer leg _) ∙ are.right k d lt;
  enough = λ pick holds. are.enough pick (timeless_choice feed buyer leg pick ∙ holds);
}

pub without_moments : (feed : FeedRows) (buyer : Buyer) (leg : LegFacts) (picks : List LegChoice) →
    AreEnough feed buyer leg picks → AreEnough feed buyer (timeless leg) picks
without_moments feed buyer leg picks are = record {
  right = λ k d lt. timeless_choice feed buyer leg _ ∙ are.right k d lt;
  enough = λ pick holds. are.enough pick (sym (timeless_choice feed buyer leg pick) ∙ holds);
}

-- what is kept for legs of a kind is enough for each of them
pub picks_kept : (terms : FareTerms) (lists : List (KindList LegChoice)) (leg : LegFacts) (number : ℕ) → All (HasPicks terms) lists → IsOfKind lists leg number
    → AreEnough terms.feed terms.buyer leg (items_at lists number)
picks_kept terms lists leg number all kind = by (slice_get lists number) refl kind
  where
    by : (o : Option (KindList LegChoice)) → slice_get lists number ≡ o → option_map (λ (l : KindList LegChoice). l.kind) o ≡ Some (timeless leg)
        → AreEnough terms.feed terms.buyer leg (option_map_or (λ (l : KindList LegChoice). l.items) o [])
    by None at e = absurd (cc)
    by (Some own) at e =
        with_moments terms.feed terms.buyer leg own.items
        (subst (λ (k : LegFacts). AreEnough terms.feed terms.buyer k own.items) (same_Some own.kind (timeless leg) e)
        (All-slice_get (HasPicks terms) lists number own at all))

-- a list that is kept last is of its kind
pub kind_last : (lists more : List (KindList LegChoice)) (leg : LegFacts) (picks : List LegChoice) (result : Result ℕ AllocError)
    → IfOk result (λ number. number ≡ length lists) → OnOk result (more ≡ lists ++ kept_for leg picks ∷ []) → IfOk result (IsOfKind more leg)
kind_last lists more leg picks (Ok number) last is =
    ap (λ (ls : List (KindList LegChoice)). option_map (λ (l : KindList LegChoice). l.kind) (slice_get ls number)) is
    ∙ ap (option_map (λ (l : KindList LegChoice). l.kind)) (slice_get-push_last lists (kept_for leg picks) number last)
kind_last lists more leg picks (Err e) last is = tt

-- and the others stay so, whether it is kept or not
pub kind_still : (lists more : List (KindList LegChoice)) (own : KindList LegChoice) (leg : LegFacts) (number : ℕ) (result : Result ℕ AllocError)
    → OnOk result (more ≡ lists ++ own ∷ []) → OnErr result (more ≡ lists) → IsOfKind lists leg number → IsOfKind more leg number
kind_still lists more own leg number (Ok kept) is same before =
    ap (λ (ls : List (KindList LegChoice)). option_map (λ (l : KindList LegChoice). l.kind) (slice_get ls number)) is
    ∙ ap (option_map (λ (l : KindList LegChoice). l.kind)) (slice_get-push_before lists own number (within (slice_get lists number) refl before)) ∙ before
  where
    within : (o : Option (KindList LegChoice)) → slice_get lists number ≡ o → option_map (λ (l : KindList LegChoice). l.kind) o ≡ Some (timeless leg)
        → number < length lists
    within None at e = absurd (cc)
    within (Some o) at e = slice_get_within lists number o at
kind_still lists more own leg number (Err e) is same before = subst (λ ls. IsOfKind ls leg number) (sym same) before

-- and each holds what is enough
pub picks_still : (terms : FareTerms) (lists more : List (KindList LegChoice)) (own : KindList LegChoice) (result : Result ℕ AllocError)
    → OnOk result (more ≡ lists ++ own ∷ []) → OnErr result (more ≡ lists) → All (HasPicks terms) lists → HasPicks terms own → All (HasPicks terms) more
picks_still terms lists more own (Ok number) is same all has = subst (All (HasPicks terms)) (sym is) (All-push (HasPicks terms) lists own all has)
picks_still terms lists more own (Err e) is same all has = subst (All (HasPicks terms)) (sym same) all
