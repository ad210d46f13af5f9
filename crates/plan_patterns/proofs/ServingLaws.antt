-- Where patterns serve stops.
use Rattle.std.proofs.Common.{◌≡◌, refl, ◌∙◌, ap, sym, ℕ, zero, suc, ◌+◌, ◌<◌, Bool, true, false, List, [], ◌∷◌, ◌++◌, length, get_or, arith}
use Rattle.std.specs.Prelude.{if◌then◌else◌, ◌&&◌, ◌==◌}
use Rattle.std.proofs.lemmas.Option.{slice_get-get_or}
use Rattle.item_groups.specs.declared.groups.Grouped.{Grouped}
use Rattle.plain_laws.specs.Plain.{picks_below}
use Rattle.item_groups.specs.Groups.{group_of, groups_below}
use Rattle.plain_laws.proofs.Laws.{joined_below-same, joined_more, picks_below-same}
use Rattle.item_groups.proofs.GroupLaws.{group_of-append, group_of-joined_below, groups_below-at}
use Rattle.plan_patterns.specs.declared.halts.Halt.{Halt}
use Rattle.plan_patterns.specs.declared.pattern.Pattern.{Pattern}
use Rattle.plan_patterns.specs.declared.serving.Serving.{Serving}
use Rattle.plan_patterns.specs.Servings.{AreServings, servings_in, servings_of_first, boards_at, grouped_serving, halts_in, is_pickup, list_at, serving_of}

-- a group of what is picked is what is picked of the group
group_of-picks : {X : Type 0} (n : ℕ) (test : ℕ → Bool) (f : ℕ → Grouped X) (i : ℕ) →
    group_of (picks_below n test f) i ≡ picks_below n (λ k. test k && (f k).group == i) (λ k. (f k).item)
group_of-picks zero test f i = refl
group_of-picks {X} (suc n) test f i =
    group_of-append (picks_below n test f) (if test n then f n ∷ [] else []) i
    ∙ ap (λ xs. xs ++ group_of (if test n then f n ∷ [] else []) i) (group_of-picks n test f i)
    ∙ ap (λ xs. picks_below n (λ k. test k && (f k).group == i) (λ k. (f k).item) ++ xs) (last (test n) ((f n).group == i) refl)
  where
    last : (t g : Bool) → ((f n).group == i) ≡ g → group_of (if t then f n ∷ [] else []) i ≡ (if t && g then (f n).item ∷ [] else [])
    last true true e = rw e refl
    last true false e = rw e refl
    last false g e = refl

-- those of a pattern that are at the stop
own_servings : (halts : List Halt) (pattern stop : ℕ) → group_of (servings_in halts pattern) stop ≡ picks_below (length halts) (boards_at halts stop) (serving_of pattern)
unfolding servings_in
own_servings halts pattern stop =
    group_of-picks (length halts) (is_pickup halts) (grouped_serving halts pattern) stop
    ∙ picks_below-same (length halts) (λ k. is_pickup halts k && (grouped_serving halts pattern k).group == stop) (boards_at halts stop) (serving_of pattern) each
  where
    each : (k : ℕ) → k < length halts → (is_pickup halts k && (grouped_serving halts pattern k).group == stop) ≡ boards_at halts stop k
    each k lt =
        let got = slice_get-get_or halts k (record { stop = record { 0 = 0 }; pickup = false; drop_off = false }) lt in
        rw got refl

-- by stop
pub by_stop : (all : List (List Halt)) (stops n : ℕ) (members : List (Grouped Serving)) (servings : List (List Serving)) → n ≡ length all → members ≡ servings_of_first all n → servings ≡ groups_below stops members → AreServings all stops servings
by_stop all stops n members servings whole is groups = record {
  each = λ stop lt.
      ap (λ gs. list_at gs stop) groups
      ∙ groups_below-at stops members stop lt
      ∙ ap (λ ms. group_of ms stop) (is ∙ ap (servings_of_first all) whole)
      ∙ group_of-joined_below (length all) (λ pattern. servings_in (list_at all pattern) pattern) stop
      ∙ joined_below-same (length all) (λ pattern. group_of (servings_in (list_at all pattern) pattern) stop) (λ pattern. picks_below (length (list_at all pattern)) (boards_at (list_at all pattern) stop) (serving_of pattern)) (λ pattern below. own_servings (list_at all pattern) pattern stop);
}

-- the halts of a pattern by its number
halts_of_one : (patterns : List Pattern) (k : ℕ) (d : Pattern) → k < length patterns → list_at (halts_in patterns) k ≡ (get_or patterns k d).halts.items
halts_of_one [] k d lt = absurd (omega arith)
halts_of_one (p ∷ ps) zero d lt = refl
halts_of_one (p ∷ ps) (suc k) d lt = halts_of_one ps k d (omega arith)

-- those of one pattern more
pub servings_more : (patterns : List Pattern) (k : ℕ) (d : Pattern) (halts : List Halt) (before servings : List (Grouped Serving)) →
    k < length patterns → halts ≡ (get_or patterns k d).halts.items → before ≡ servings_of_first (halts_in patterns) k → servings ≡ before ++ servings_in halts k → servings ≡ servings_of_first (halts_in patterns) (k + 1)
servings_more patterns k d halts before servings lt own was grown =
    joined_more k (λ pattern. servings_in (list_at (halts_in patterns) pattern) pattern) before (servings_in halts k) servings was
    (ap (λ hs. servings_in hs k) (halts_of_one patterns k d lt ∙ sym own)) grown
