-- Tests that decide facts, put together as the facts are: so a fact about rows that are written out is shown by computing.
use Rattle.std.proofs.Common.{◌≡◌, refl, sym, ap, subst, ℕ, ◌<◌, ◌≤◌, ◌⊎◌, ℤ, ◌≤ℤ◌, int_le, Bool, true, false, not, ◌&&◌, ◌||◌, ◌==◌, nat_lt, nat_le, List, [], ◌∷◌, Option, Some, None, slice_get, get_or, is_some, option_and_then, All, AllPairs, arith}
use Rattle.std.specs.Bool.{Decides, beq}
use Rattle.std.specs.List.{list_all}
use Rattle.std.specs.Option.{ForSome, option_eq}
use Rattle.std.specs.Ordering.{int_eq}
use Rattle.std.specs.Str.{bytes_eq}
use Rattle.std.specs.Cmp.{booleans_Decides}
use Rattle.std.specs.Cmp.Lexicographic.{bytes_decides}
use Rattle.std.proofs.lemmas.Int.{ints}
use Rattle.std.proofs.lemmas.Bool.{leb-true, le-leb}
use Rattle.std.proofs.lemmas.Bool.Decides.{Decides-eqb, Decides-int_eq, Decides-ltb, Decides-not, Decides-and, Decides-or, Decides-by_and, Decides-like}
use Rattle.std.proofs.lemmas.List.Kept.{AllPairs-cons}
use Rattle.std.proofs.lemmas.Option.{slice_get_within, get_or_from_slice_get, slice_get-get_or, same_Some}
use Rattle.plain_laws.specs.Items.{ForItem}
use Rattle.plain_laws.specs.Optional.{empty_or}
use Rattle.plain_laws.specs.Numbers.{int_same}
use Rattle.plain_laws.proofs.OrderLaws.{AllPairs-head, AllPairs-tail}

-- a test that decides P
pub record Test (P : Type 0) : Type 0 where
  pub passes : Bool
  pub decides : Decides passes P

-- a proof of P, where the test passes
abbrev pub proof_if : {P : Type 0} (b : Bool) → (b ≡ true → P) → Option P
proof_if true tells = Some (tells refl)
proof_if false tells = None

-- what follows from P, where its test passes
abbrev pub ask : {P Q : Type 0} → Test P → (P → Option Q) → Option Q
ask test next = option_and_then next (proof_if test.passes test.decides.0)

-- and from a proof of P, if it was found
abbrev pub and_so : {P Q : Type 0} → Option P → (P → Option Q) → Option Q
and_so proof next = option_and_then next proof

-- the proof that was found
pub found : {P : Type 0} (o : Option P) → is_some o ≡ true → P
found (Some proof) is = proof
found None is = absurd (cc)

-- a fact that is itself a test
abbrev pub is_true : (b : Bool) → Test (b ≡ true)
is_true b = record { passes = b; decides = (λ e. e, λ e. e) }

pub is_false_decides : (b : Bool) → Decides (not b) (b ≡ false)
is_false_decides true = (λ e. sym e, λ e. sym e)
is_false_decides false = (λ e. refl, λ e. refl)

abbrev pub is_false : (b : Bool) → Test (b ≡ false)
is_false b = record { passes = not b; decides = is_false_decides b }

-- facts of numbers
pub at_most_decides : (a b : ℕ) → Decides (nat_le a b) (a ≤ b)
at_most_decides a b = (leb-true a b, le-leb a b)

pub int_at_most_decides : (a b : ℤ) → Decides (int_le a b) (a ≤ℤ b)
int_at_most_decides a b = (λ e. grind (arith, ints), λ le. grind (arith, ints))

pub int_is_decides : (a b : ℤ) → Decides (int_same a b) (a ≡ b)
int_is_decides a b = (λ e. grind (arith, ints), λ same. grind (arith, ints))

abbrev pub at_most : (a b : ℕ) → Test (a ≤ b)
at_most a b = record { passes = nat_le a b; decides = at_most_decides a b }

abbrev pub below : (a b : ℕ) → Test (a < b)
below a b = record { passes = nat_lt a b; decides = Decides-ltb a b }

abbrev pub is : (a b : ℕ) → Test (a ≡ b)
is a b = record { passes = a == b; decides = Decides-eqb a b }

abbrev pub int_at_most : (a b : ℤ) → Test (a ≤ℤ b)
int_at_most a b = record { passes = int_le a b; decides = int_at_most_decides a b }

abbrev pub int_is : (a b : ℤ) → Test (a ≡ b)
int_is a b = record { passes = int_same a b; decides = int_is_decides a b }

abbrev pub is_text : (a b : List ℕ) → Test (a ≡ b)
is_text a b = record { passes = bytes_eq a b; decides = bytes_decides a b }

-- facts of facts
abbrev pub isnt : {P : Type 0} → Test P → Test (P → ⊥)
isnt test = record { passes = not test.passes; decides = Decides-not test.passes test.decides }

abbrev pub both : {P Q : Type 0} → Test P → Test Q → Test (P × Q)
both one other = record { passes = one.passes && other.passes; decides = Decides-and one.passes other.passes one.decides other.decides }

abbrev pub either : {P Q : Type 0} → Test P → Test Q → Test (P ⊎ Q)
either one other = record { passes = one.passes || other.passes; decides = Decides-or one.passes other.passes one.decides other.decides }

pub given_decides : {P Q : Type 0} (b c : Bool) → Decides b P → Decides c Q → Decides (not b || c) (P → Q)
given_decides true c one other = (λ e p. other.0 e, λ all. other.1 (all (one.0 refl)))
given_decides false c one other = (λ e p. absurd (let no = one.1 p in cc), λ all. refl)

abbrev pub given : {P Q : Type 0} → Test P → Test Q → Test (P → Q)
given one other = record { passes = not one.passes || other.passes; decides = given_decides one.passes other.passes one.decides other.decides }

-- another form of the fact
abbrev pub likewise : {P Q : Type 0} → Test P → (P → Q) → (Q → P) → Test Q
likewise test there back = record { passes = test.passes; decides = Decides-like test.passes there back test.decides }

abbrev pub all_three : {P Q R : Type 0} → Test P → Test Q → Test R → Test (P × Q × R)
all_three one other third = likewise (both one (both other third)) (λ all. (all.0, all.1.0, all.1.1)) (λ all. (all.0, (all.1, all.2)))

-- facts of each item, and of each and each later one
abbrev pub each : {X : Type 0} {P : X → Type 0} (xs : List X) → ((x : X) → Test (P x)) → Test (All P xs)
each {X} {P} xs test =
    record {
      passes = list_all (λ x. (test x).passes) xs;
      decides = Decides-by_and (λ x. (test x).passes) P (list_all (λ x. (test x).passes)) (λ x. (test x).decides) refl (λ x xs. refl) xs;
    }

abbrev all_pairs : {X : Type 0} → (X → X → Bool) → List X → Bool
all_pairs r [] = true
all_pairs r (x ∷ xs) = list_all (r x) xs && all_pairs r xs

pub all_pairs_decides : {X : Type 0} (r : X → X → Bool) (R : X → X → Type 0) → ((x y : X) → Decides (r x y) (R x y)) → (xs : List X) → Decides (all_pairs r xs) (AllPairs R xs)
all_pairs_decides r R test [] = (λ e i j d lt within. absurd (omega arith), λ all. refl)
all_pairs_decides {X} r R test (x ∷ xs) =
    let first = Decides-by_and (r x) (R x) (list_all (r x)) (test x) refl (λ y ys. refl) xs in
    let pair = Decides-and (list_all (r x) xs) (all_pairs r xs) first (all_pairs_decides r R test xs) in
    (λ e. let parts = pair.0 e in AllPairs-cons R x xs parts.0 parts.1, λ all. pair.1 (AllPairs-head R x xs all, AllPairs-tail R x xs all))

abbrev pub each_pair : {X : Type 0} {R : X → X → Type 0} (xs : List X) → ((x y : X) → Test (R x y)) → Test (AllPairs R xs)
each_pair {X} {R} xs test =
    record {
      passes = all_pairs (λ x y. (test x y).passes) xs;
      decides = all_pairs_decides (λ x y. (test x y).passes) R (λ x y. (test x y).decides) xs;
    }

-- facts of what a field or a place holds
pub for_some_decides : {X : Type 0} (p : X → Bool) (P : X → Type 0) → ((x : X) → Decides (p x) (P x)) → (o : Option X) → Decides (empty_or o p) (ForSome o P)
for_some_decides p P test None = (λ e x held. absurd (cc), λ all. refl)
for_some_decides p P test (Some y) = (λ e x held. subst P (same_Some y x held) ((test y).0 e), λ all. (test y).1 (all y refl))

abbrev pub for_some : {X : Type 0} {P : X → Type 0} (o : Option X) → ((x : X) → Test (P x)) → Test (ForSome o P)
for_some {X} {P} o test = record { passes = empty_or o (λ x. (test x).passes); decides = for_some_decides (λ x. (test x).passes) P (λ x. (test x).decides) o }

pub for_item_decides : {X : Type 0} (p : X → Bool) (P : X → Type 0) → ((x : X) → Decides (p x) (P x)) → (xs : List X) (i : ℕ) → Decides (empty_or (slice_get xs i) p) (ForItem xs i P)
for_item_decides {X} p P test xs i =
    let held = for_some_decides p P test (slice_get xs i) in
    (λ e d lt. (held.0 e) (get_or xs i d) (slice_get-get_or xs i d lt), λ item. held.1 (λ x got. subst P (get_or_from_slice_get xs i x x got) (item x (slice_get_within xs i x got))))

abbrev pub for_item : {X : Type 0} {P : X → Type 0} (xs : List X) (i : ℕ) → ((x : X) → Test (P x)) → Test (ForItem xs i P)
for_item {X} {P} xs i test = record { passes = empty_or (slice_get xs i) (λ x. (test x).passes); decides = for_item_decides (λ x. (test x).passes) P (λ x. (test x).decides) xs i }

-- whole numbers, as a derived test has them
abbrev pub int_equals : (a b : ℤ) → Test (a ≡ b)
int_equals a b = record { passes = int_eq a b; decides = Decides-int_eq a b }

abbrev pub same_flag : (a b : Bool) → Test (a ≡ b)
same_flag a b = record { passes = beq a b; decides = booleans_Decides a b }

-- two things of one number
abbrev pub same_id : {X : Type 0} (number : X → ℕ) → ((x y : X) → number x ≡ number y → x ≡ y) → (x y : X) → Test (x ≡ y)
same_id number tells x y = likewise (is (number x) (number y)) (tells x y) (ap number)

-- two fields hold one thing, or both none
pub option_eq_decides : {X : Type 0} (same : X → X → Bool) → ((x y : X) → Decides (same x y) (x ≡ y)) → (o p : Option X) →
    Decides (option_eq same o p) (o ≡ p)
option_eq_decides same tells None None = (λ e. refl, λ e. refl)
option_eq_decides same tells None (Some y) = (λ e. absurd (cc), λ e. absurd (cc))
option_eq_decides same tells (Some x) None = (λ e. absurd (cc), λ e. absurd (cc))
option_eq_decides same tells (Some x) (Some y) = (λ e. ap Some ((tells x y).0 e), λ e. (tells x y).1 (same_Some x y e))

abbrev pub same_option : {X : Type 0} → ((x y : X) → Test (x ≡ y)) → (o p : Option X) → Test (o ≡ p)
same_option test o p =
    record {
      passes = option_eq (λ x y. (test x y).passes) o p;
      decides = option_eq_decides (λ x y. (test x y).passes) (λ x y. (test x y).decides) o p;
    }

abbrev pub same_field : {X : Type 0} (number : X → ℕ) → ((x y : X) → number x ≡ number y → x ≡ y) → (o p : Option X) → Test (o ≡ p)
same_field number tells = same_option (same_id number tells)
