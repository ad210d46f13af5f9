-- Items in numbered groups.
use Rattle.std.proofs.Common.{ℕ, ◌+◌, ◌-◌, ◌<◌, List, [], ◌∷◌, arith, ◌≤◌, ⊎_elim, ◌≡◌, sym, ap, true, false, length, take, refl, subst, ◌++◌, ◌∙◌, get_or, ◌⊎◌, inl, inr, Contains, zero, suc, add-one, length-append}
use Rattle.item_groups.specs.declared.groups.Grouped.{Grouped}
use Rattle.std.proofs.Math.ListN.{set}
use Rattle.item_groups.specs.declared.groups.Chains.{Chains}
use Rattle.item_groups.specs.Groups.{AreChains, IsNextOf, group_of, groups_below}
use Rattle.std.proofs.lemmas.Bool.{cases_eq, cases_lt, cases_Bool}
use Rattle.std.specs.Prelude.{◌==◌, replicate, map, slice_get, filter, unwrap_or}
use Rattle.std.proofs.lemmas.Bool.Decides.{nat_tests}
use Rattle.std.proofs.lemmas.List.{length-replicate, get_or-replicate, take_more, get_or_default, get_or-set_same, get_or-set_other, length-set}
use Rattle.std.specs.List.Sorted.{IsNonDecreasingBy}
use Rattle.plain_laws.proofs.Laws.{get_or-list_below, length-list_below, slice_get-list_below, Contains-cons_cases, Contains-cons_first, Contains-cons_later, joined_below-same}
use Rattle.plain_laws.specs.Plain.{joined_below, list_below}
use Rattle.std.proofs.lemmas.List.Kept.{IsNonDecreasingBy-filter}
use Rattle.std.proofs.lemmas.Option.{slice_get_past}
use Rattle.item_groups.specs.Parts.{parts, Rise}
use Rattle.item_groups.proofs.PartLaws.{pushed_part}

-- a group of two lists
pub group_of-append : {X : Type 0} (ms ns : List (Grouped X)) (i : ℕ) → group_of (ms ++ ns) i ≡ group_of ms i ++ group_of ns i
group_of-append [] ns i = refl
group_of-append {X} (m ∷ ms) ns i = step (cases_Bool (m.group == i)) (group_of-append ms ns i)
  where
    step : ((m.group == i) ≡ true) ⊎ ((m.group == i) ≡ false) → group_of (ms ++ ns) i ≡ group_of ms i ++ group_of ns i → group_of ((m ∷ ms) ++ ns) i ≡ group_of (m ∷ ms) i ++ group_of ns i
    step (inl hit) rest = rw hit (ap (λ xs. m.item ∷ xs) rest)
    step (inr miss) rest = rw miss rest

-- one member more before others
group_of-cons : {X : Type 0} (m : Grouped X) (xs ys : List (Grouped X)) (i : ℕ) → group_of xs i ≡ group_of ys i → group_of (m ∷ xs) i ≡ group_of (m ∷ ys) i
group_of-cons {X} m xs ys i same = step (cases_Bool (m.group == i))
  where
    step : ((m.group == i) ≡ true) ⊎ ((m.group == i) ≡ false) → group_of (m ∷ xs) i ≡ group_of (m ∷ ys) i
    step (inl hit) = rw hit (ap (λ items. m.item ∷ items) same)
    step (inr miss) = rw miss same

-- a group is as it was before members of which none is its own
group_of-passed : {X : Type 0} (members : List (Grouped X)) (i from place : ℕ) → from ≤ place
    → ((k : ℕ) (d : Grouped X) → from ≤ k → k < place → k < length members → (get_or members k d).group ≡ i → ⊥)
    → group_of (take place members) i ≡ group_of (take from members) i
group_of-passed [] i zero zero le none = refl
group_of-passed [] i zero (suc place) le none = refl
group_of-passed [] i (suc from) zero le none = absurd (omega arith)
group_of-passed [] i (suc from) (suc place) le none = refl
group_of-passed (m ∷ members) i zero zero le none = refl
group_of-passed (m ∷ members) i (suc from) zero le none = absurd (omega arith)
group_of-passed (m ∷ members) i zero (suc place) le none =
    let other : (m.group == i) ≡ false = grind (arith, nat_tests, none 0 m (omega arith) (omega arith) (omega arith)) in
    rw other (group_of-passed members i zero place (omega arith) (λ k d low lt within. none (suc k) d (omega arith) (omega arith) (omega arith)))
group_of-passed (m ∷ members) i (suc from) (suc place) le none =
    group_of-cons m (take place members) (take from members) i
    (group_of-passed members i from place (omega arith) (λ k d low lt within. none (suc k) d (omega arith) (omega arith) (omega arith)))

-- the first member of a group, after those before it
pub group_of-start : {X : Type 0} (members : List (Grouped X)) (i place : ℕ) → IsNextOf members i 0 place → [] ≡ group_of (take place members) i
group_of-start members i place next = sym (group_of-passed members i 0 place next.forward next.none)

-- and each next one
pub group_of-next : {X : Type 0} (members : List (Grouped X)) (i place after : ℕ) (d : Grouped X) → place < length members → (get_or members place d).group ≡ i
    → IsNextOf members i (place + 1) after → group_of (take after members) i ≡ group_of (take place members) i ++ (get_or members place d).item ∷ []
group_of-next members i place after d lt own next =
    let hit : ((get_or members place d).group == i) ≡ true = grind (arith, nat_tests, own) in
    group_of-passed members i (place + 1) after next.forward next.none
    ∙ ap (λ ms. group_of ms i) (take_more members place d lt)
    ∙ group_of-append (take place members) (get_or members place d ∷ []) i
    ∙ rw hit refl

-- the members of a group
pub Contains-group_of : {X : Type 0} (ms : List (Grouped X)) (i : ℕ) (x : X) → Contains ms (record { group = i; item = x }) → Contains (group_of ms i) x
Contains-group_of [] i x at = let lt = at.1 in absurd (omega arith)
Contains-group_of {X} (m ∷ ms) i x at = step (Contains-cons_cases m ms (record { group = i; item = x }) at) (Contains-group_of ms i x) (cases_Bool (m.group == i))
  where
    step : (m ≡ record { group = i; item = x }) ⊎ Contains ms (record { group = i; item = x }) → (Contains ms (record { group = i; item = x }) → Contains (group_of ms i) x) → ((m.group == i) ≡ true) ⊎ ((m.group == i) ≡ false) → Contains (group_of (m ∷ ms) i) x
    step (inl same) later (inl hit) = rw hit (subst (λ y. Contains (y ∷ group_of ms i) x) (sym (ap (λ (k : Grouped X). k.item) same)) (Contains-cons_first x (group_of ms i)))
    step (inl same) later (inr miss) = absurd (let own : m.group ≡ i = ap (λ (k : Grouped X). k.group) same in let hit : (m.group == i) ≡ true = grind (arith, nat_tests, own) in let no : true ≡ false = sym hit ∙ miss in cc)
    step (inr at) later (inl hit) = rw hit (Contains-cons_later m.item (group_of ms i) x (later at))
    step (inr at) later (inr miss) = rw miss (later at)

pub group_of-tells : {X : Type 0} (ms : List (Grouped X)) (i : ℕ) (x : X) → Contains (group_of ms i) x → Contains ms (record { group = i; item = x })
group_of-tells [] i x at = let lt = at.1 in absurd (omega arith)
group_of-tells {X} (m ∷ ms) i x at = step (cases_Bool (m.group == i)) (group_of-tells ms i x)
  where
    step : ((m.group == i) ≡ true) ⊎ ((m.group == i) ≡ false) → (Contains (group_of ms i) x → Contains ms (record { group = i; item = x })) → Contains (m ∷ ms) (record { group = i; item = x })
    step (inr miss) later = Contains-cons_later m ms (record { group = i; item = x }) (later (rw miss at at))
    step (inl hit) later = ⊎_elim
        (λ (same : m.item ≡ x). let own : m.group ≡ i = grind (arith, nat_tests, hit) in subst (λ k. Contains (m ∷ ms) (record { group = k; item = x })) own (subst (λ y. Contains (m ∷ ms) (record { group = m.group; item = y })) same (Contains-cons_first m ms)))
        (λ (there : Contains (group_of ms i) x). Contains-cons_later m ms (record { group = i; item = x }) (later there))
        (Contains-cons_cases m.item (group_of ms i) x (rw hit at at))

-- what is next from a place on is so from the place before, where that is of another group
next_wider : {X : Type 0} (members : List (Grouped X)) (i from place : ℕ) → ((d : Grouped X) → (get_or members from d).group ≡ i → ⊥)
    → IsNextOf members i (from + 1) place → IsNextOf members i from place
next_wider members i from place other next =
    let forward = next.forward in
    record {
      forward = omega arith;
      none = λ k d low lt within own. ⊎_elim
          (λ (here : k < from + 1). let same : k ≡ from = omega arith in other d (subst (λ n. (get_or members n d).group ≡ i) same own))
          (λ (past : from + 1 ≤ k). next.none k d past lt within own)
          (cases_lt k (from + 1));
      own = next.own;
    }

-- before any member is put, no link leads to one
pub unlinked : {X : Type 0} (members : List (Grouped X)) (chains : Chains) (count none : ℕ) → chains.firsts.items ≡ replicate count none → chains.nexts.items ≡ replicate (length members) none
    → length members ≤ none → AreChains members (length members - 0) chains
unlinked members chains count none firsts nexts le = record {
  long = ap length nexts ∙ length-replicate (length members) none;
  first = λ group lt.
      let within : group < count = omega (arith, lt, ap length firsts ∙ length-replicate count none) in
      let is : get_or chains.firsts.items group 0 ≡ none = ap (λ l. get_or l group 0) firsts ∙ get_or-replicate count group none 0 within in
      record {
        forward = omega (arith, is, le);
        none = λ k d from to below own. absurd (omega (arith, from, below));
        own = λ d below. absurd (omega (arith, is, below, le));
      };
  next = λ k d from below lt. absurd (omega (arith, from, below));
}

module _ {X : Type 0} (members : List (Grouped X)) (place : ℕ) (d : Grouped X) (lt : place < length members) where
  -- the group of the member at a place
  abbrev own_group : ℕ
  own_group = (get_or members place d).group

  same_group : (e : Grouped X) → (get_or members place e).group ≡ own_group
  same_group e = ap (λ (m : Grouped X). m.group) (get_or_default members place e d lt)

  -- the member is put before those of its group
  pub chain_put : (old new : Chains) (next : ℕ) → own_group < length old.firsts.items → next ≡ get_or old.firsts.items own_group next → AreChains members (place + 1) old
      → new.firsts.items ≡ set old.firsts.items own_group place → new.nexts.items ≡ set old.nexts.items place next → AreChains members place new
  chain_put old new next below at behind firsts nexts =
      record {
        long = rw (nexts, length-set old.nexts.items place next) behind.long;
        first = λ i less. first i (omega (arith, less, many)) (cases_eq i own_group);
        next = λ k e low within less. later k e low within (omega (arith, less, many)) (cases_eq k place);
      }
    where
      many : length new.firsts.items ≡ length old.firsts.items
      many = ap length firsts ∙ length-set old.firsts.items own_group place

      first : (i : ℕ) → i < length old.firsts.items → (i ≡ own_group) ⊎ (i ≡ own_group → ⊥) → IsNextOf members i place (get_or new.firsts.items i 0)
      first i less (inl same) =
          let is : get_or new.firsts.items i 0 ≡ place = rw (firsts, same) (get_or-set_same old.firsts.items own_group place 0 below) in
          rw is (record { forward = omega arith; none = λ k e low less within own. omega arith; own = λ e within. same_group e ∙ sym same })
      first i less (inr other) =
          let is : get_or new.firsts.items i 0 ≡ get_or old.firsts.items i 0 = rw firsts (get_or-set_other old.firsts.items own_group i place 0 other) in
          rw is (next_wider members i place (get_or old.firsts.items i 0) (λ e own. other (sym own ∙ same_group e)) (behind.first i less))

      later : (k : ℕ) (e : Grouped X) → place ≤ k → k < length members → (get_or members k e).group < length old.firsts.items → (k ≡ place) ⊎ (k ≡ place → ⊥)
          → IsNextOf members (get_or members k e).group (k + 1) (get_or new.nexts.items k 0)
      later k e low within less (inl same) =
          let inside : place < length old.nexts.items = omega (arith, lt, behind.long) in
          let first_is : next ≡ get_or old.firsts.items own_group 0 = at ∙ get_or_default old.firsts.items own_group next 0 below in
          let is : get_or new.nexts.items place 0 ≡ get_or old.firsts.items own_group 0 = rw nexts (get_or-set_same old.nexts.items place next 0 inside ∙ first_is) in
          rw (same, same_group e, is) (behind.first own_group below)
      later k e low within less (inr other) =
          let is : get_or new.nexts.items k 0 ≡ get_or old.nexts.items k 0 = rw nexts (get_or-set_other old.nexts.items place k next 0 other) in
          rw is (behind.next k e (omega arith) within less)

  -- one of no group is passed over
  pub chain_passed : (chains : Chains) → length chains.firsts.items ≤ own_group → AreChains members (place + 1) chains → AreChains members place chains
  chain_passed chains past behind =
      record {
        long = behind.long;
        first = λ i less. next_wider members i place (get_or chains.firsts.items i 0) (λ e own. let is = same_group e in omega (arith, own, is, less, past)) (behind.first i less);
        next = λ k e low within less. ⊎_elim
            (λ (same : k < place + 1).
            let one : k ≡ place = omega arith in
            let is = same_group e in
            let own = subst (λ n. (get_or members n e).group < length chains.firsts.items) one less in
            absurd (omega (arith, is, own, past)))
            (λ (later : place + 1 ≤ k). behind.next k e later within less)
            (cases_lt k (place + 1));
      }

-- a group of what is joined
pub group_of-joined_below : {X : Type 0} (n : ℕ) (f : ℕ → List (Grouped X)) (i : ℕ) → group_of (joined_below n f) i ≡ joined_below n (λ k. group_of (f k) i)
group_of-joined_below zero f i = refl
group_of-joined_below (suc n) f i = group_of-append (joined_below n f) (f n) i ∙ ap (λ xs. xs ++ group_of (f n) i) (group_of-joined_below n f i)

-- an item of a group, with the group's number
get_or-items : {X : Type 0} (ms : List (Grouped X)) (i j : ℕ) (d : X) → get_or (map (λ m. m.item) ms) i d ≡ (get_or ms i (record { group = j; item = d })).item
get_or-items [] i j d = refl
get_or-items (m ∷ ms) zero j d = refl
get_or-items (m ∷ ms) (suc i) j d = get_or-items ms i j d

length-items : {X : Type 0} (ms : List (Grouped X)) → length (map (λ m. m.item) ms) ≡ length ms
length-items [] = refl
length-items (m ∷ ms) = ap suc (length-items ms)

-- the items of a group stand as they did among all
pub group_rises : {X : Type 0} (number : X → ℕ) (members : List (Grouped X)) (i : ℕ) → IsNonDecreasingBy (λ (m : Grouped X). number m.item) members → IsNonDecreasingBy number (group_of members i)
group_rises {X} number members i rises a b d le lt =
    let kept = IsNonDecreasingBy-filter (λ (m : Grouped X). number m.item) (λ m. m.group == i) members rises in
    let long = length-items (filter (λ m. m.group == i) members) in
    rw (get_or-items (filter (λ m. m.group == i) members) a 0 d, get_or-items (filter (λ m. m.group == i) members) b 0 d) (kept a b (record { group = 0; item = d }) le (omega arith))

-- a group by its number
pub groups_below-at : {X : Type 0} (n : ℕ) (members : List (Grouped X)) (i : ℕ) → i < n → unwrap_or (slice_get (groups_below n members) i) [] ≡ group_of members i
unfolding groups_below
groups_below-at n members i lt = rw (slice_get-list_below n (group_of members) i lt) refl

-- and none past the last
pub groups_below-past : {X : Type 0} (n : ℕ) (members : List (Grouped X)) (i : ℕ) → n ≤ i → unwrap_or (slice_get (groups_below n members) i) [] ≡ []
unfolding groups_below
groups_below-past n members i past =
    let long = length-list_below n (group_of members) in
    rw (slice_get_past (list_below n (group_of members)) i (omega arith)) refl

-- all groups together
pub joined-groups_below : {X : Type 0} (n : ℕ) (members : List (Grouped X)) → joined_below (length (groups_below n members)) (λ i. get_or (groups_below n members) i []) ≡ joined_below n (group_of members)
unfolding groups_below
joined-groups_below n members = rw (length-list_below n (group_of members)) (joined_below-same n (λ i. get_or (list_below n (group_of members)) i []) (group_of members) (λ i lt. get_or-list_below n (group_of members) i [] lt))

-- one group more
pub group_pushed : {X : Type 0} (members : List (Grouped X)) (ends longer : List ℕ) (xs more : List X) (i end : ℕ)
    → Rise 0 ends (length xs) → parts 0 ends xs ≡ list_below i (group_of members) → more ≡ xs ++ group_of members i → longer ≡ ends ++ end ∷ [] → end ≡ length more
    → Rise 0 longer (length more) × (parts 0 longer more ≡ list_below (i + 1) (group_of members))
group_pushed members ends longer xs more i end rise before is_more is_longer at =
    let size : end ≡ length xs + length (group_of members i) = at ∙ ap length is_more ∙ length-append xs (group_of members i) in
    let pushed = pushed_part ends longer xs (group_of members i) more end rise is_longer is_more size in
    (pushed.0, pushed.1 ∙ rw (before, add-one) refl)

-- items that are numbered by a key
pub group_of-map : {X : Type 0} (key : X → ℕ) (xs : List X) (i : ℕ) → group_of (map (λ x. record { group = key x; item = x }) xs) i ≡ filter (λ x. key x == i) xs
group_of-map key [] i = refl
group_of-map key (x ∷ xs) i = step (cases_Bool (key x == i)) (group_of-map key xs i)
  where
    step : ((key x == i) ≡ true) ⊎ ((key x == i) ≡ false) → group_of (map (λ y. record { group = key y; item = y }) xs) i ≡ filter (λ y. key y == i) xs
        → group_of (map (λ y. record { group = key y; item = y }) (x ∷ xs)) i ≡ filter (λ y. key y == i) (x ∷ xs)
    step (inl hit) rest = rw hit (ap (λ ys. x ∷ ys) rest)
    step (inr miss) rest = rw miss rest
