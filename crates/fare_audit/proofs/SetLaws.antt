-- Lists in which one place is written.
use Rattle.std.proofs.Common.{◌≡◌, refl, sym, ◌∙◌, ap, subst, ℕ, zero, suc, ◌+◌, ◌-◌, ◌<◌, ◌≤◌, ◌⊎◌, inl, inr, ⊎_elim, Bool, true, false, List, [], ◌∷◌, ◌++◌, length, get_or, set, take, replicate, drop, Contains, arith}
use Rattle.std.specs.Prelude.{slice_get}
use Rattle.std.proofs.lemmas.Bool.{cases_eq, cases_lt, false≢true}
use Rattle.std.proofs.lemmas.List.{get_or-replicate, get_or-set_other, get_or-set_same, length-replicate, length-set}
use Rattle.std.proofs.lemmas.List.Elements.{Contains-append_left, Contains-push, Contains-push_cases}
use Rattle.std.proofs.lemmas.Option.{slice_get-get_or, slice_get_past}
use Rattle.transit_base.specs.declared.numbers.RuleId.{RuleId}
use Rattle.ride_cache.proofs.PlaceLaws.{written}
use Rattle.plain_laws.specs.Plain.{filled_and}
use Rattle.fare_audit.specs.Found.{MarksAll, is_marked}

get_or_past : (xs : List Bool) (n : ℕ) → length xs ≤ n → get_or xs n false ≡ false
get_or_past [] n le = refl
get_or_past (x ∷ xs) zero le = absurd (omega arith)
get_or_past (x ∷ xs) (suc n) le = get_or_past xs n (omega arith)

-- a mark is what stands at its place
pub marked_is : (marks : List Bool) (i : ℕ) → is_marked marks i ≡ get_or marks i false
marked_is marks i = ⊎_elim
    (λ (lt : i < length marks). ap (λ o. filled_and o (λ (m : Bool). m)) (slice_get-get_or marks i false lt))
    (λ (past : length marks ≤ i). ap (λ o. filled_and o (λ (m : Bool). m)) (slice_get_past marks i past) ∙ sym (get_or_past marks i past))
    (cases_lt i (length marks))

marks_set : (marks : List Bool) (i k : ℕ) → i < length marks → is_marked (set marks i true) k ≡ true → (is_marked marks k ≡ true) ⊎ (k ≡ i)
marks_set marks i k lt e = ⊎_elim
    (λ (same : k ≡ i). inr same)
    (λ n. inl (marked_is marks k ∙ sym (get_or-set_other marks i k true false n) ∙ sym (marked_is (set marks i true) k) ∙ e))
    (cases_eq k i)

marks_kept : (marks : List Bool) (i k : ℕ) → i < length marks → is_marked marks k ≡ true → is_marked (set marks i true) k ≡ true
marks_kept marks i k lt e = ⊎_elim
    (λ (same : k ≡ i). marked_is (set marks i true) k ∙ ap (λ n. get_or (set marks i true) n false) same ∙ get_or-set_same marks i true false lt)
    (λ n. marked_is (set marks i true) k ∙ get_or-set_other marks i k true false n ∙ sym (marked_is marks k) ∙ e)
    (cases_eq k i)

marks_here : (marks : List Bool) (i : ℕ) → i < length marks → is_marked (set marks i true) i ≡ true
marks_here marks i lt = marked_is (set marks i true) i ∙ get_or-set_same marks i true false lt

-- nothing is marked
pub marks_none : (marks : List Bool) → MarksAll [] marks marks
marks_none marks = record { many = refl; kept = λ i at. at; marks = λ rule at lt. let none = at.1 in absurd (omega (arith, none)); tells = λ i at. inl at }

-- one rule more is marked
pub marks_more : (rules : List RuleId) (rule : RuleId) (old now : List Bool) → MarksAll rules old now → rule.0 < length now →
    MarksAll (rules ++ rule ∷ []) old (set now rule.0 true)
marks_more rules rule old now were lt =
    let many = were.many in
    record {
      many = length-set now rule.0 true ∙ were.many;
      kept = λ i at. marks_kept now rule.0 i lt (were.kept i at);
      marks = λ other at within. ⊎_elim
          (λ (before : Contains rules other). marks_kept now rule.0 other.0 lt (were.marks other before within))
          (λ (here : rule ≡ other). subst (λ (r : RuleId). is_marked (set now rule.0 true) r.0 ≡ true) here (marks_here now rule.0 lt))
          (Contains-push_cases rules rule other at);
      tells = λ i at. ⊎_elim
          (λ (before : is_marked now i ≡ true). ⊎_elim
          (λ (first : is_marked old i ≡ true). let r : (is_marked old i ≡ true) ⊎ Contains (rules ++ rule ∷ []) (record { 0 = i }) = inl first in r)
          (λ (other : Contains rules (record { 0 = i })). let r : (is_marked old i ≡ true) ⊎ Contains (rules ++ rule ∷ []) (record { 0 = i }) = inr (Contains-append_left rules _ _ other) in r)
          (were.tells i before))
          (λ (here : i ≡ rule.0). let same : rule ≡ (let r : RuleId = record { 0 = i } in r) = ap (λ (n : ℕ). let r : RuleId = record { 0 = n } in r) (sym here) in inr (subst (Contains (rules ++ rule ∷ [])) same (Contains-push rules rule)))
          (marks_set now rule.0 i lt at);
    }

-- or has no place
pub marks_past : (rules : List RuleId) (rule : RuleId) (old now : List Bool) → MarksAll rules old now → length now ≤ rule.0 → MarksAll (rules ++ rule ∷ []) old now
marks_past rules rule old now were past =
    let many = were.many in
    record {
      many = were.many;
      kept = were.kept;
      marks = λ other at within. ⊎_elim
          (λ (before : Contains rules other). were.marks other before within)
          (λ (here : rule ≡ other). let same : rule.0 ≡ other.0 = ap (λ (r : RuleId). r.0) here in absurd (omega (arith, same, past, many, within)))
          (Contains-push_cases rules rule other at);
      tells = λ i at. ⊎_elim
          (λ (first : is_marked old i ≡ true). let r : (is_marked old i ≡ true) ⊎ Contains (rules ++ rule ∷ []) (record { 0 = i }) = inl first in r)
          (λ (other : Contains rules (record { 0 = i })). let r : (is_marked old i ≡ true) ⊎ Contains (rules ++ rule ∷ []) (record { 0 = i }) = inr (Contains-append_left rules _ _ other) in r)
          (were.tells i at);
    }

-- an empty list has no item
pub none_in : {X : Type 0} (x : X) → Contains [] x → ⊥
none_in x at = let lt = at.1 in omega (arith, lt)

-- nothing is marked where each is no
pub none_marked : (marks : List Bool) (n i : ℕ) → marks ≡ replicate n false → is_marked marks i ≡ true → ⊥
none_marked marks n i e at = false≢true (sym (ap (λ ms. get_or ms i false) e ∙ off n i) ∙ sym (marked_is marks i) ∙ at)
  where
    off : (n i : ℕ) → get_or (replicate n false) i false ≡ false
    off n i = ⊎_elim (λ (lt : i < n). get_or-replicate n i false false lt) (λ (past : n ≤ i). get_or_past (replicate n false) i (let long = length-replicate n false in omega (arith, past, long))) (cases_lt i n)

-- marks that were written over a whole list of them
pub marks_written : (rules : List RuleId) (old lent new : List Bool) (n : ℕ) → lent ≡ old → n ≡ length old → MarksAll rules lent new → MarksAll rules old (take n (new ++ drop (length new) old))
marks_written rules old lent new n same all marks =
    let many = marks.many in
    let own = ap length same in
    subst (MarksAll rules old) (sym (written old new n (omega (arith, many, own)) all)) (subst (λ (o : List Bool). MarksAll rules o new) same marks)
