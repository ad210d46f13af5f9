-- Numbers under which it is kept what it is enough to pay for each leg.
use Rattle.std.proofs.Common.{◌≡◌, refl, sym, ◌∙◌, ap, subst, ℕ, ◌+◌, ◌<◌, ◌≤◌, ◌⊎◌, inl, inr, List, [], ◌∷◌, ◌++◌, length, get_or, take, arith}
use Rattle.std.proofs.lemmas.Bool.{cases_lt}
use Rattle.std.specs.Prelude.{Some, slice_get, Result, Ok, Err, OnOk, OnErr}
use Rattle.std.specs.declared.alloc.AllocError.{AllocError}
use Rattle.std.proofs.lemmas.List.{length-append, length_push, take_more}
use Rattle.std.proofs.lemmas.Option.{same_Some, slice_get_within, slice_get-get_or}
use Rattle.feed_rows.specs.declared.fares.LegChoice.{LegChoice}
use Rattle.feed_rows.specs.declared.journeys.LegFacts.{LegFacts}
use Rattle.plain_laws.proofs.Laws.{slice_get-push_before, slice_get-push_last}
use Rattle.leg_kinds.specs.Kinds.{KindList, IsOfKind}
use Rattle.fare_price.specs.Known.{AreKnown}

-- no leg
pub none_known : (lists : List (KindList LegChoice)) → AreKnown lists [] []
none_known lists = record { many = refl; each = λ i leg number at. absurd (cc) }

-- one leg more
one_more_known : (lists : List (KindList LegChoice)) (legs : List LegFacts) (numbers : List ℕ) (leg : LegFacts) (number : ℕ) →
    AreKnown lists legs numbers → IsOfKind lists leg number → AreKnown lists (legs ++ leg ∷ []) (numbers ++ number ∷ [])
one_more_known lists legs numbers leg number are new =
    record {
      many = let long = are.many in simp (length-append) (omega (arith, long));
      each = λ i other n at to. step i other n at to (cases_lt i (length legs)) (slice_get_within (legs ++ leg ∷ []) i other at);
    }
  where
    step : (i : ℕ) (other : LegFacts) (n : ℕ) → slice_get (legs ++ leg ∷ []) i ≡ Some other → slice_get (numbers ++ number ∷ []) i ≡ Some n
        → (i < length legs) ⊎ (length legs ≤ i) → i < length (legs ++ leg ∷ []) → IsOfKind lists other n
    step i other n at to (inl lt) within =
        let long = are.many in
        are.each i other n (sym (slice_get-push_before legs leg i lt) ∙ at) (sym (slice_get-push_before numbers number i (omega (arith, long, lt))) ∙ to)
    step i other n at to (inr past) within =
        let long = are.many in
        let more = length_push legs leg in
        let one : leg ≡ other = same_Some _ _ (sym (slice_get-push_last legs leg i (omega (arith, past, within, more))) ∙ at) in
        let its : number ≡ n = same_Some _ _ (sym (slice_get-push_last numbers number i (omega (arith, past, within, more, long))) ∙ to) in
        rw (← one, ← its) new

-- what is kept on
pub still_known : (lists more : List (KindList LegChoice)) (legs : List LegFacts) (numbers : List ℕ) →
    ((leg : LegFacts) (number : ℕ) → IsOfKind lists leg number → IsOfKind more leg number) → AreKnown lists legs numbers →
    AreKnown more legs numbers
still_known lists more legs numbers still are = record { many = are.many; each = λ i leg number at to. still leg number (are.each i leg number at to) }

-- one leg more behind the others, where what was kept is kept on
pub pushed_known : (lists more : List (KindList LegChoice)) (legs all : List LegFacts) (leg : LegFacts) (numbers both : List ℕ) (number : ℕ) →
    ((other : LegFacts) (n : ℕ) → IsOfKind lists other n → IsOfKind more other n) → AreKnown lists legs numbers →
    IsOfKind more leg number → all ≡ legs ++ leg ∷ [] → both ≡ numbers ++ number ∷ [] → AreKnown more all both
pushed_known lists more legs all leg numbers both number still are new is push =
    subst (λ (ls : List LegFacts). AreKnown more ls both) (sym is)
    (subst (AreKnown more (legs ++ leg ∷ [])) (sym push)
    (one_more_known more legs numbers leg number (still_known lists more legs numbers still are) new))

-- one leg more of those in a list
pub more_known : (lists more : List (KindList LegChoice)) (legs : List LegFacts) (i : ℕ) (leg : LegFacts) (numbers both : List ℕ) (number : ℕ) →
    i < length legs → leg ≡ get_or legs i leg → AreKnown lists (take i legs) numbers →
    ((other : LegFacts) (n : ℕ) → IsOfKind lists other n → IsOfKind more other n) → IsOfKind more leg number →
    both ≡ numbers ++ number ∷ [] → AreKnown more (take (i + 1) legs) both
more_known lists more legs i leg numbers both number lt item are still new push =
    pushed_known lists more (take i legs) (take (i + 1) legs) leg numbers both number still are new
    (take_more legs i leg lt ∙ ap (λ l. take i legs ++ l ∷ []) (sym item)) push

-- the list under the number of a leg is of its kind
pub kind_at : (lists : List (KindList LegChoice)) (legs : List LegFacts) (numbers : List ℕ) (place number : ℕ) (leg : LegFacts) →
    AreKnown lists legs numbers → slice_get legs place ≡ Some leg → number ≡ get_or numbers place 0 → IsOfKind lists leg number
kind_at lists legs numbers place number leg are at is =
    let long = are.many in
    let lt = slice_get_within legs place leg at in
    subst (IsOfKind lists leg) (sym is) (are.each place leg (get_or numbers place 0) at (slice_get-get_or numbers place 0 (omega (arith, long, lt))))

-- the same, where it may be refused
pub push_result : (lists more : List (KindList LegChoice)) (legs all : List LegFacts) (leg : LegFacts) (numbers both : List ℕ) (number : ℕ)
    (result : Result (Unit {0}) AllocError) →
    ((other : LegFacts) (n : ℕ) → IsOfKind lists other n → IsOfKind more other n) → AreKnown lists legs numbers →
    IsOfKind more leg number → OnOk result (all ≡ legs ++ leg ∷ []) → OnOk result (both ≡ numbers ++ number ∷ []) →
    OnErr result (all ≡ legs) → OnErr result (both ≡ numbers) → AreKnown more all both
push_result lists more legs all leg numbers both number (Ok u) still are new is push same same' =
    pushed_known lists more legs all leg numbers both number still are new is push
push_result lists more legs all leg numbers both number (Err e) still are new is push same same' =
    subst (λ (ls : List LegFacts). AreKnown more ls both) (sym same)
    (subst (AreKnown more legs) (sym same') (still_known lists more legs numbers still are))
