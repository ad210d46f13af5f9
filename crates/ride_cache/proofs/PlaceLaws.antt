-- Lists of places in which one is written.
use Rattle.std.proofs.Common.{◌≡◌, sym, ◌∙◌, ap, ℕ, ◌<◌, ◌⊎◌, inl, inr, ⊎_elim, List, [], ◌∷◌, ◌++◌, length, get_or, set, take, drop, append-nil, take_all, Contains, arith}
use Rattle.std.specs.Prelude.{Option, Some, None}
use Rattle.std.proofs.lemmas.Bool.{cases_eq}
use Rattle.std.proofs.lemmas.List.{get_or-set_other, get_or-set_same, length-drop, length-set}
use Rattle.std.proofs.lemmas.List.Elements.{Contains-push_cases}
use Rattle.std.proofs.lemmas.Option.{none-some}
use Rattle.plain_laws.proofs.Laws.{no_item}

-- what stands in a list of which one place was written stood there, or is what was written
pub contains_set : {X : Type 0} (xs : List X) (i : ℕ) (v x : X) → i < length xs → Contains (set xs i v) x → Contains xs x ⊎ (v ≡ x)
contains_set xs i v x lt at =
    let within = at.1 in
    let long = length-set xs i v in
    ⊎_elim
    (λ (e : at.0 ≡ i). inr (sym (ap (λ n. get_or (set xs i v) n x) e ∙ get_or-set_same xs i v x lt) ∙ at.2))
    (λ n. inl (at.0, omega (arith, within, long), sym (get_or-set_other xs i at.0 v x n) ∙ at.2))
    (cases_eq at.0 i)

-- with one empty place more there are no more items
pub no_more : {X : Type 0} (xs : List (Option X)) → ((x : X) → Contains xs (Some x) → ⊥) → (x : X) → Contains (xs ++ None ∷ []) (Some x) → ⊥
no_more xs before x at = ⊎_elim
    (λ (old : Contains xs (Some x)). before x old)
    (λ (new : None ≡ Some x). none-some x new)
    (Contains-push_cases xs None (Some x) at)

-- what is written over a whole list is what stands there
pub written : {X : Type 0} (old new : List X) (n : ℕ) → length new ≡ length old → n ≡ length old → take n (new ++ drop (length new) old) ≡ new
written old new n e m =
    let gone = length-drop (length new) old in
    rw (no_item (drop (length new) old) (omega (arith, gone, e)), append-nil new) (take_all n new (omega (arith, e, m)))
