-- Bags of labels by stop and class.
use Rattle.std.proofs.Common.{◌≡◌, refl, sym, ◌∙◌, ap, subst, ℕ, zero, suc, ◌<◌, ⊎_elim, Bool, true, false, List, [], ◌∷◌, ◌++◌, length, get_or, arith}
use Rattle.std.specs.Cmp.{IsEquivalence}
use Rattle.std.specs.List.{AllByRecursion, IsDistinct}
use Rattle.std.specs.Map.{keys_of, values_of}
use Rattle.std.specs.Option.{option_eq, is_some}
use Rattle.std.specs.Prelude.{Contains, Option, Some, None, ◌==◌, slice_get, slice_set as set, position}
use Rattle.std.proofs.lemmas.Bool.{and_from, and_parts, both_ways, cases_lt, eq-eqb, eqb-true}
use Rattle.std.proofs.lemmas.List.{get_or_append_left, length_push, map-append}
use Rattle.std.proofs.lemmas.List.Elements.{All-contains}
use Rattle.std.proofs.lemmas.List.Quantifiers.{position-Some}
use Rattle.std.proofs.lemmas.Map.Entries.{length-keys_of, length-values_of}
use Rattle.std.proofs.lemmas.Map.Keys.{IsDistinct-head, IsDistinct-tail}
use Rattle.std.proofs.lemmas.Option.{get_or_from_slice_get, same_Some, slice_get-get_or, slice_get_within}
use Rattle.indexmap.specs.Layout.{set_value_at}
use Rattle.label_bag.specs.Bags.{Apart, AreApart}
use Rattle.plain_laws.proofs.Laws.{AllPairs-append, AllPairs-joined_below, joined_below-tells, slice_get-append_left, slice_get-push_last}
use Rattle.round_terms.specs.declared.classes.StopClass.{StopClass}
use Rattle.round_terms.specs.declared.label.Label.{Label}
use Rattle.round_search.specs.Bags.{AreBags, AreClassBags, ByClass, IsBagOf, IsOf, bag_at, bags_of, in_all, in_bags}
use Rattle.round_terms.specs.Classes.{KeepsClass, same_key}
use Rattle.round_terms.specs.Labels.{covers}
use Rattle.round_search.proofs.BagLaws.{bags_set, in_push, last_bag, of_stop, stops_apart, strangers}

-- ---- entries of a map

-- the keys stay where a value is changed, and of the values one changes
set_keys : {K V : Type 0} (es : List (K × V)) (i : ℕ) (v : V) → keys_of (set_value_at es i v) ≡ keys_of es
set_keys [] i v = refl
set_keys (e ∷ es) zero v = refl
set_keys (e ∷ es) (suc i) v = ap (λ ks. e.0 ∷ ks) (set_keys es i v)

pub set_values : {K V : Type 0} (es : List (K × V)) (i : ℕ) (v : V) → values_of (set_value_at es i v) ≡ set (values_of es) i v
set_values [] i v = refl
set_values (e ∷ es) zero v = refl
set_values (e ∷ es) (suc i) v = ap (λ vs. e.1 ∷ vs) (set_values es i v)

pub push_values : {K V : Type 0} (es : List (K × V)) (k : K) (v : V) → values_of (es ++ (k, v) ∷ []) ≡ values_of es ++ v ∷ []
push_values {K} {V} es k v = map-append (λ (e : K × V). e.1) es ((k, v) ∷ [])

push_keys : {K V : Type 0} (es : List (K × V)) (k : K) (v : V) → keys_of (es ++ (k, v) ∷ []) ≡ keys_of es ++ k ∷ []
push_keys {K} {V} es k v = map-append (λ (e : K × V). e.0) es ((k, v) ∷ [])

-- there are as many values as keys
pub as_many : {K V : Type 0} (es : List (K × V)) → length (values_of es) ≡ length (keys_of es)
as_many es = length-values_of es ∙ sym (length-keys_of es)

-- a list has an item at each place
item_at : {X : Type 0} (xs : List X) (i : ℕ) → i < length xs → (x : X) × (slice_get xs i ≡ Some x)
item_at [] i lt = absurd (omega (arith, lt))
item_at (x ∷ xs) zero lt = (x, refl)
item_at (x ∷ xs) (suc i) lt = item_at xs i (omega (arith, lt))

-- of distinct keys no two are the same
all_at : {K : Type 0} (P : K → Type 0) (ks : List K) (j : ℕ) (b : K) → AllByRecursion P ks → slice_get ks j ≡ Some b → P b
all_at P [] j b all at = absurd (cc)
all_at P (k ∷ ks) zero b all at = subst P (same_Some k b at) all.0
all_at P (k ∷ ks) (suc j) b all at = all_at P ks j b all.1 at

distinct_at : {K : Type 0} (same : K → K → Bool) (ks : List K) (i j : ℕ) (a b : K) → IsDistinct same ks → i < j →
    slice_get ks i ≡ Some a → slice_get ks j ≡ Some b → same a b ≡ false
distinct_at same [] i j a b are lt at_i at_j = absurd (cc)
distinct_at same (k ∷ ks) i zero a b are lt at_i at_j = absurd (omega (arith, lt))
distinct_at same (k ∷ ks) zero (suc j) a b are lt at_i at_j =
    subst (λ c. same c b ≡ false) (same_Some k a at_i) (all_at (λ c. same k c ≡ false) ks j b (IsDistinct-head same k ks are) at_j)
distinct_at same (k ∷ ks) (suc i) (suc j) a b are lt at_i at_j =
    distinct_at same ks i j a b (IsDistinct-tail same k ks are) (omega (arith, lt)) at_i at_j

-- a bag of one label more
pub in_push_values : {F M C : Type 0} (bags : ByClass F M C) (key : StopClass C) (members : List (Label F M)) (x : Label F M) →
    members ≡ x ∷ [] → in_all (values_of (bags ++ (key, members) ∷ [])) ≡ in_all (values_of bags) ++ x ∷ []
in_push_values bags key members x is =
    ap in_all (push_values bags key members) ∙ in_push (values_of bags) members ∙ ap (λ ms. in_all (values_of bags) ++ ms) is

-- nothing is found where nothing is there
pub none_there : {X : Type 0} (o : Option X) → is_some o ≡ false → o ≡ None
none_there None none = refl
none_there (Some x) none = absurd (cc)

-- where a label of this class is looked for
abbrev pub key_of : {F M C : Type 0} → C → Label F M → StopClass C
key_of class x = record { stop = x.stop.0; class = class }

module _ {F M C : Type 0} (at_most : F → F → Bool) (same : C → C → Bool) (class_of : F → Option C) where
  -- no bags
  pub no_classes : (bags : ByClass F M C) → bags ≡ [] → IsDistinct (same_key same) (keys_of bags) → AreClassBags at_most same class_of bags
  no_classes bags none distinct = record {
    each = λ i k is. absurd (let no : slice_get [] i ≡ Some k = subst (λ bs. slice_get (keys_of bs) i ≡ Some k) none is in cc);
    distinct = distinct;
  }

  -- ---- one bag changes, or is added

  pub classes_set : (bags : ByClass F M C) (number : ℕ) (key : StopClass C) (members : List (Label F M)) →
      slice_get (keys_of bags) number ≡ Some key → AreClassBags at_most same class_of bags →
      IsBagOf at_most same class_of key.stop (Some key.class) members →
      AreClassBags at_most same class_of (set_value_at bags number members)
  classes_set bags number key members at are new = record {
    each = λ i k is.
        subst (λ vs. IsBagOf at_most same class_of k.stop (Some k.class) (bag_at vs i)) (sym (set_values bags number members))
        (bags_set Of (values_of bags) number members lt are.each
        (λ k is.
        subst (λ (c : StopClass C). IsBagOf at_most same class_of c.stop (Some c.class) members) (same_Some key k (sym at ∙ is)) new)
        i k (subst (λ ks. slice_get ks i ≡ Some k) (set_keys bags number members) is));
    distinct = subst (IsDistinct (same_key same)) (sym (set_keys bags number members)) are.distinct;
  }
    where
      Of : ℕ → List (Label F M) → Type 0
      Of i ms = (k : StopClass C) → slice_get (keys_of bags) i ≡ Some k → IsBagOf at_most same class_of k.stop (Some k.class) ms

      lt : number < length (values_of bags)
      lt = subst (λ n. number < n) (sym (as_many bags)) (slice_get_within (keys_of bags) number key at)

  pub classes_push : (bags : ByClass F M C) (key : StopClass C) (members : List (Label F M)) → AreClassBags at_most same class_of bags →
      IsBagOf at_most same class_of key.stop (Some key.class) members →
      IsDistinct (same_key same) (keys_of (bags ++ (key, members) ∷ [])) →
      AreClassBags at_most same class_of (bags ++ (key, members) ∷ [])
  classes_push bags key members are new distinct = record {
    each = λ i k is.
        subst (λ vs. IsBagOf at_most same class_of k.stop (Some k.class) (bag_at vs i)) (sym (push_values bags key members))
        (at_place i k (subst (λ ks. slice_get ks i ≡ Some k) (push_keys bags key members) is));
    distinct = distinct;
  }
    where
      values : List (List (Label F M))
      values = values_of bags

      at_place : (i : ℕ) (k : StopClass C) → slice_get (keys_of bags ++ key ∷ []) i ≡ Some k →
          IsBagOf at_most same class_of k.stop (Some k.class) (bag_at (values ++ members ∷ []) i)
      at_place i k is =
          ⊎_elim
          (λ before.
          subst (IsBagOf at_most same class_of k.stop (Some k.class))
          (sym (get_or_append_left values (members ∷ []) [] i (subst (λ n. i < n) (sym (as_many bags)) before)))
          (are.each i k (sym (slice_get-append_left (keys_of bags) (key ∷ []) i before) ∙ is)))
          (λ past.
          let within = slice_get_within (keys_of bags ++ key ∷ []) i k is in
          let long = length_push (keys_of bags) key in
          let end : i ≡ length (keys_of bags) = omega (arith, past, within, long) in
          subst (IsBagOf at_most same class_of k.stop (Some k.class)) (sym (last_bag values members i (end ∙ sym (as_many bags))))
          (subst (λ (c : StopClass C). IsBagOf at_most same class_of c.stop (Some c.class) members)
          (same_Some key k (sym (slice_get-push_last (keys_of bags) key i end) ∙ is)) new))
          (cases_lt i (length (keys_of bags)))

  -- ---- a bag is looked for

  -- the bag that was found is one of the same stop and class
  pub found_bag : (bags : ByClass F M C) (key : StopClass C) (number : ℕ) (members : List (Label F M)) →
      AreClassBags at_most same class_of bags → position (same_key same key) (keys_of bags) ≡ Some number →
      slice_get (values_of bags) number ≡ Some members →
      (k : StopClass C) × (slice_get (keys_of bags) number ≡ Some k) × (same_key same key k ≡ true)
      × IsBagOf at_most same class_of k.stop (Some k.class) members
  found_bag bags key number members are found at =
      let p = position-Some (same_key same key) (keys_of bags) number key found in
      let there = slice_get-get_or (keys_of bags) number key p.0 in
      let k = get_or (keys_of bags) number key in (
        k,
        there,
        p.1,
        subst (IsBagOf at_most same class_of k.stop (Some k.class))
            (get_or_from_slice_get (values_of bags) number members [] at) (are.each number k there),
      )

  -- so a label of the one stop and class is of the other
  pub of_same_key : (class : C) (key : StopClass C) (x : Label F M) → class_of x.fare ≡ Some class →
      same_key same (key_of class x) key ≡ true → IsOf same class_of key.stop (Some key.class) x
  of_same_key class key x has h =
      let both = and_parts (x.stop.0 == key.stop) (same class key.class) h in
      record {
        there = eqb-true x.stop.0 key.stop both.0;
        classed = subst (λ o. option_eq same o (Some key.class) ≡ true) (sym has) both.1;
      }

  pub own_key : IsEquivalence same → (class : C) (x : Label F M) → class_of x.fare ≡ Some class → IsOf same class_of x.stop.0 (Some class) x
  own_key equal class x has = record {
    there = refl;
    classed = subst (λ o. option_eq same o (Some class) ≡ true) (sym has) (equal.refl class);
  }

  -- ---- all bags

  module _ (equal : IsEquivalence same) (keeps : KeepsClass at_most same class_of) where
    -- a label in the bags by class has the class of its bag
    of_class : (bags : ByClass F M C) (i : ℕ) (x : Label F M) → AreClassBags at_most same class_of bags → i < length (values_of bags) →
        Contains (bag_at (values_of bags) i) x →
        (k : StopClass C) × (slice_get (keys_of bags) i ≡ Some k) × IsOf same class_of k.stop (Some k.class) x
    of_class bags i x are lt at =
        let key = item_at (keys_of bags) i (subst (λ n. i < n) (as_many bags) lt) in
        let all = (are.each i key.0 key.1).each in
        (key.0, key.1, All-contains (IsOf same class_of key.0.stop (Some key.0.class)) (bag_at (values_of bags) i) x all at)

    classes_apart : (bags : ByClass F M C) → AreClassBags at_most same class_of bags → AreApart (covers at_most) (in_all (values_of bags))
    classes_apart bags are =
        AllPairs-joined_below (Apart (covers at_most)) (length (values_of bags)) (bag_at (values_of bags)) within between
      where
        within : (i : ℕ) → i < length (values_of bags) → AreApart (covers at_most) (bag_at (values_of bags) i)
        within i lt =
            let key = item_at (keys_of bags) i (subst (λ n. i < n) (as_many bags) lt) in
            (are.each i key.0 key.1).bag.apart

        between : (i j : ℕ) (x y : Label F M) → i < j → j < length (values_of bags) → Contains (bag_at (values_of bags) i) x →
            Contains (bag_at (values_of bags) j) y → Apart (covers at_most) x y
        between i j x y lt most at_x at_y =
            let of_x = of_class bags i x are (omega (arith, lt, most)) at_x in
            let of_y = of_class bags j y are most at_y in
            let differ = distinct_at (same_key same) (keys_of bags) i j of_x.0 of_y.0 are.distinct lt of_x.1 of_y.1 in
            strangers at_most same class_of equal keeps of_x.0.stop of_y.0.stop (Some of_x.0.class) (Some of_y.0.class) x y
            (λ stops classes. both_ways (same_key same of_x.0 of_y.0) differ
            (and_from (of_x.0.stop == of_y.0.stop) (same of_x.0.class of_y.0.class) (eq-eqb of_x.0.stop of_y.0.stop stops) classes))
            of_x.2 of_y.2

    -- no label in bags covers another
    pub bags_apart : (stops : List (List (Label F M))) (classes : ByClass F M C) → AreBags at_most same class_of stops classes →
        AreApart (covers at_most) (in_bags (bags_of stops classes))
    bags_apart stops classes are =
        AllPairs-append (Apart (covers at_most)) (in_all stops) (in_all (values_of classes))
        (stops_apart at_most same class_of equal keeps stops are.stops) (classes_apart classes are.classes) between
      where
        between : (x y : Label F M) → Contains (in_all stops) x → Contains (in_all (values_of classes)) y → Apart (covers at_most) x y
        between x y at_x at_y =
            let stop = joined_below-tells (length stops) (bag_at stops) x at_x in
            let class = joined_below-tells (length (values_of classes)) (bag_at (values_of classes)) y at_y in
            let of_y = of_class classes class.0 y are.classes class.1 class.2 in
            strangers at_most same class_of equal keeps stop.0 of_y.0.stop None (Some of_y.0.class) x y
            (λ stops classes. let no : false ≡ true = classes in cc)
            (of_stop at_most same class_of equal keeps stops stop.0 x are.stops stop.2) of_y.2
