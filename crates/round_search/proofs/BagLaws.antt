-- Bags of labels, of which one is changed at a time.
use Rattle.std.proofs.Common.{◌≡◌, refl, sym, ◌∙◌, ap, subst, ℕ, zero, suc, ◌+◌, ◌<◌, ◌⊎◌, ⊎_elim, Bool, true, false, List, [], ◌∷◌, ◌++◌, length, take, get_or, append_assoc, arith}
use Rattle.std.specs.Cmp.{IsEquivalence}
use Rattle.std.specs.Cmp.Lexicographic.{options_equiv}
use Rattle.std.specs.Option.{option_eq}
use Rattle.std.specs.Prelude.{All, Contains, Option, Some, None, Result, Ok, Err, OnErr, OnOk, filter, nat_eq, slice_get, slice_set as set}
use Rattle.std.proofs.lemmas.Bool.{cases_eq, false_from_ne_true}
use Rattle.std.proofs.lemmas.List.{append-nil, get_or-set_other, get_or-set_same, get_or_append_left, length-set, length_push, take_more}
use Rattle.std.proofs.lemmas.List.Elements.{All-contains, All-cons, All-nil, All-weaker, filter-append}
use Rattle.std.proofs.lemmas.Option.{get_or_from_slice_get, slice_get_within}
use Rattle.label_bag.specs.Bags.{Apart, AreApart, Gathers}
use Rattle.search_laws.specs.Stores.{Takes}
use Rattle.plain_laws.specs.Plain.{joined_below}
use Rattle.plain_laws.proofs.Laws.{AllPairs-joined_below, Contains-cons_cases, joined_below-same, joined_more, slice_get-push_last}
use Rattle.transit_base.specs.declared.numbers.StopId.{StopId}
use Rattle.round_terms.specs.declared.label.Label.{Label}
use Rattle.round_search.specs.Bags.{AreStopBags, IsBagOf, IsOf, bag_at, has_rides, in_all}
use Rattle.round_terms.specs.Classes.{KeepsClass}
use Rattle.round_terms.specs.CoverLaws.{covers-tells}
use Rattle.round_terms.specs.Labels.{covers}
use Rattle.round_search.proofs.TakeLaws.{takes_joined}

-- what passes of many lists is what passes of each
pub filter_joined : {L : Type 0} (p : L → Bool) (n : ℕ) (f : ℕ → List L) →
    joined_below n (λ i. filter p (f i)) ≡ filter p (joined_below n f)
filter_joined p zero f = refl
filter_joined p (suc n) f =
    ap (λ ls. ls ++ filter p (f n)) (filter_joined p n f) ∙ sym (filter-append p (joined_below n f) (f n))

-- no list past those that are empty
pub none_push : {L : Type 0} (bags : List (List L)) → ((i : ℕ) → get_or bags i [] ≡ []) → (i : ℕ) → get_or (bags ++ [] ∷ []) i [] ≡ []
none_push [] none zero = refl
none_push [] none (suc i) = refl
none_push (b ∷ bags) none zero = none 0
none_push (b ∷ bags) none (suc i) = none_push bags (λ j. none (suc j)) i

-- one label more, which passes the test or not
module _ {L : Type 0} (p : L → Bool) (xs : List L) (n : ℕ) (x : L) (old labels : List L) (at : slice_get xs n ≡ Some x)
    (before : labels ≡ old ++ filter p (take n xs)) where
  taken : take (n + 1) xs ≡ take n xs ++ x ∷ []
  taken =
      take_more xs n x (slice_get_within xs n x at) ∙ ap (λ y. take n xs ++ y ∷ []) (get_or_from_slice_get xs n x x at)

  passing : (one : List L) → filter p (x ∷ []) ≡ one → labels ++ one ≡ old ++ filter p (take (n + 1) xs)
  passing one is =
      ap (λ ls. ls ++ one) before ∙ append_assoc old (filter p (take n xs)) one
      ∙ ap (λ ls. old ++ (filter p (take n xs) ++ ls)) (sym is)
      ∙ ap (λ ls. old ++ ls) (sym (filter-append p (take n xs) (x ∷ [])) ∙ ap (filter p) (sym taken))

  pub pushes_one : (new : List L) → p x ≡ true → new ≡ labels ++ x ∷ [] → new ≡ old ++ filter p (take (n + 1) xs)
  pushes_one new passes is = is ∙ passing (x ∷ []) (rw passes refl)

  pub pushes_none : p x ≡ false → labels ≡ old ++ filter p (take (n + 1) xs)
  pushes_none fails = sym (append-nil labels) ∙ passing [] (rw fails refl)

-- ---- one bag

-- what is so of the old labels and of one that was offered is so of the new ones
pub each_after : {L E : Type 0} (test : L → L → Bool) (P : L → Type 0) (result : Result (Unit {0}) E) (old new : List L) (x : L) →
    All P old → P x → OnOk result (Gathers test old (x ∷ []) new) → OnErr result (new ≡ old) → All P new
each_after test P (Err e) old new x each own gathers same = subst (All P) (sym same) each
each_after test P (Ok u) old new x each own gathers same =
    All-weaker (λ y. Contains old y ⊎ Contains (x ∷ []) y) P
    (λ y. ⊎_elim (λ was. All-contains P old y each was)
    (λ one. ⊎_elim (λ e. subst P e own) (λ none. let lt = none.1 in absurd (omega (arith, lt))) (Contains-cons_cases x [] y one)))
    new gathers.from

module _ {F M C : Type 0} (at_most : F → F → Bool) (same : C → C → Bool) (class_of : F → Option C) (stop : ℕ) (class : Option C) where
  -- no label makes a bag of any stop and class
  pub no_bag : IsBagOf {F = F} {M = M} at_most same class_of stop class []
  no_bag = record {
    bag = record {
      flight = record {
        classed = All-nil (λ (y : Label F M). nat_eq 0 0 ≡ true);
        rising = λ i j d lt within. absurd (omega (arith, within));
      };
      apart = λ i j d lt within. absurd (omega (arith, within));
    };
    each = All-nil (λ (y : Label F M). IsOf same class_of stop class y);
  }

  -- a label alone makes one of its stop and class
  pub one_bag : (x : Label F M) → IsOf same class_of stop class x → IsBagOf at_most same class_of stop class (x ∷ [])
  one_bag x is = record {
    bag = record {
      flight = record {
        classed = All-cons (λ (y : Label F M). nat_eq 0 0 ≡ true) x [] refl (All-nil (λ (y : Label F M). nat_eq 0 0 ≡ true));
        rising = λ i j d lt within. absurd (omega (arith, lt, within));
      };
      apart = λ i j d lt within. absurd (omega (arith, lt, within));
    };
    each = All-cons (IsOf same class_of stop class) x [] is (All-nil (IsOf same class_of stop class));
  }

-- ---- one bag of many

-- what was so of each bag is so of each after one was changed
pub bags_set : {L : Type 0} (Of : ℕ → List L → Type 0) (bags : List (List L)) (number : ℕ) (members : List L) → number < length bags →
    ((i : ℕ) → Of i (get_or bags i [])) → Of number members → (i : ℕ) → Of i (get_or (set bags number members) i [])
bags_set Of bags number members lt are new i =
    ⊎_elim
    (λ same. subst (λ k. Of k (get_or (set bags number members) k [])) (sym same)
    (subst (Of number) (sym (get_or-set_same bags number members [] lt)) new))
    (λ differ. subst (Of i) (sym (get_or-set_other bags number i members [] differ)) (are i))
    (cases_eq i number)

-- one bag took the label in, and so did all
pub takes_set : {F M E : Type 0} (test : Label F M → Label F M → Bool) (bags : List (List (Label F M))) (number : ℕ)
    (members : List (Label F M)) → number < length bags → (result : Result (Unit {0}) E) (old : List (Label F M)) (x : Label F M) →
    old ≡ bag_at bags number → OnOk result (Gathers test old (x ∷ []) members) →
    OnOk result ((y : Label F M) → Contains old y → test x y ≡ false → Contains members y) →
    OnOk result (Takes test (in_all bags) x (in_all (set bags number members)))
takes_set test bags number members lt (Err e) old x is gathers keeps = gathers
takes_set test bags number members lt (Ok u) old x is gathers keeps =
    let changed = set bags number members in
    subst (λ n. Takes test (in_all bags) x (joined_below n (bag_at changed))) (sym (length-set bags number members))
    (takes_joined test (length bags) number (bag_at bags) (bag_at changed) x lt
    (λ i differ. get_or-set_other bags number i members [] differ)
    (subst (λ ms. Takes test ms x (bag_at changed number)) is
    (subst (Takes test old x) (sym (get_or-set_same bags number members [] lt)) (record { gathers = gathers; keeps = keeps }))))

-- the last bag, and the labels of all with one more
pub last_bag : {F M : Type 0} (bags : List (List (Label F M))) (members : List (Label F M)) (i : ℕ) → i ≡ length bags →
    bag_at (bags ++ members ∷ []) i ≡ members
last_bag bags members i is =
    get_or_from_slice_get (bags ++ members ∷ []) i members [] (slice_get-push_last bags members i is)

pub in_push : {F M : Type 0} (bags : List (List (Label F M))) (members : List (Label F M)) →
    in_all (bags ++ members ∷ []) ≡ in_all bags ++ members
in_push {F} {M} bags members =
    ap (λ n. joined_below n (bag_at longer)) (length_push bags members)
    ∙ sym (joined_more (length bags) (bag_at longer) (in_all bags) members (in_all bags ++ members)
    (sym (joined_below-same (length bags) (bag_at longer) (bag_at bags) (λ i lt. get_or_append_left bags (members ∷ []) [] i lt)))
    (last_bag bags members (length bags) refl) refl)
  where
    longer : List (List (Label F M))
    longer = bags ++ members ∷ []

-- ---- labels of several bags

module _ {F M C : Type 0} (at_most : F → F → Bool) (same : C → C → Bool) (class_of : F → Option C)
    (equal : IsEquivalence same) (keeps : KeepsClass at_most same class_of) where
  -- a label doesn't cover one of another stop or class
  stranger : (s t : ℕ) (a b : Option C) (x y : Label F M) → (s ≡ t → option_eq same a b ≡ true → ⊥) →
      IsOf same class_of s a x → IsOf same class_of t b y → covers at_most x y ≡ false
  stranger s t a b x y differ of_x of_y =
      false_from_ne_true (covers at_most x y) (λ h.
      let c = covers-tells at_most x y h in
      let e = options_equiv equal in
      let of_x_too = e.congr (class_of x.fare) a b of_x.classed in
      let of_y_too = e.congr (class_of x.fare) (class_of y.fare) b (keeps x.fare y.fare c.fare) in
      differ (sym of_x.there ∙ ap (λ (stop : StopId). stop.0) c.stop ∙ of_y.there) (sym of_x_too ∙ of_y_too ∙ of_y.classed))

  pub strangers : (s t : ℕ) (a b : Option C) (x y : Label F M) → (s ≡ t → option_eq same a b ≡ true → ⊥) →
      IsOf same class_of s a x → IsOf same class_of t b y → Apart (covers at_most) x y
  strangers s t a b x y differ of_x of_y = record {
    forth = stranger s t a b x y differ of_x of_y;
    back = stranger t s b a y x (λ stops classes. differ (sym stops) ((options_equiv equal).symm a b ∙ classes)) of_y of_x;
  }

  -- a label in the bags of stops has no class
  pub of_stop : (bags : List (List (Label F M))) (i : ℕ) (x : Label F M) → AreStopBags at_most same class_of bags →
      Contains (bag_at bags i) x → IsOf same class_of i None x
  of_stop bags i x are at = All-contains (IsOf same class_of i None) (bag_at bags i) x (are i).each at

  -- no label in them covers another
  pub stops_apart : (bags : List (List (Label F M))) → AreStopBags at_most same class_of bags → AreApart (covers at_most) (in_all bags)
  stops_apart bags are =
      AllPairs-joined_below (Apart (covers at_most)) (length bags) (bag_at bags) (λ i lt. (are i).bag.apart)
      (λ i j x y lt within at_x at_y.
      strangers i j None None x y (λ stops classes. omega (arith, lt, stops)) (of_stop bags i x are at_x) (of_stop bags j y are at_y))

-- ---- what is gathered

-- one bag more
pub gathers_more : {F M : Type 0} (rides : ℕ) (bags : List (List (Label F M))) (k : ℕ) (old labels new members : List (Label F M)) →
    labels ≡ old ++ joined_below k (λ i. filter (has_rides rides) (bag_at bags i)) → bag_at bags k ≡ members →
    new ≡ labels ++ filter (has_rides rides) members →
    new ≡ old ++ joined_below (k + 1) (λ i. filter (has_rides rides) (bag_at bags i))
gathers_more {F} {M} rides bags k old labels new members before is now =
    now ∙ ap (λ ls. ls ++ filter (has_rides rides) members) before
    ∙ append_assoc old (joined_below k here) (filter (has_rides rides) members)
    ∙ ap (λ ls. old ++ ls) (joined_more k here _ (filter (has_rides rides) members) _ refl (ap (filter (has_rides rides)) is) refl)
  where
    here : ℕ → List (Label F M)
    here i = filter (has_rides rides) (bag_at bags i)

-- all bags
pub gathers_all : {F M : Type 0} (rides : ℕ) (bags : List (List (Label F M))) (k : ℕ) (old new : List (Label F M)) → k ≡ length bags →
    new ≡ old ++ joined_below k (λ i. filter (has_rides rides) (bag_at bags i)) → new ≡ old ++ filter (has_rides rides) (in_all bags)
gathers_all rides bags k old new all is =
    is ∙ ap (λ n. old ++ joined_below n (λ i. filter (has_rides rides) (bag_at bags i))) all
    ∙ ap (λ ls. old ++ ls) (filter_joined (has_rides rides) (length bags) (bag_at bags))

-- and those of the others after them
pub gathers_both : {L : Type 0} (p : L → Bool) (first second old labels new : List L) → labels ≡ old ++ filter p first →
    new ≡ labels ++ filter p second → new ≡ old ++ filter p (first ++ second)
gathers_both p first second old labels new before is =
    is ∙ ap (λ ls. ls ++ filter p second) before ∙ append_assoc old (filter p first) (filter p second)
    ∙ ap (λ ls. old ++ ls) (sym (filter-append p first second))
