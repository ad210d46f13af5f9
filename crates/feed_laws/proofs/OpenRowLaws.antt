-- The first open row of least amount: it is open, no open row is cheaper, and the open rows before it are dearer.
use Rattle.std.proofs.Common.{◌≡◌, refl, sym, ◌∙◌, ap, subst, ℕ, ◌<◌, ◌⊎◌, inl, inr, Bool, true, false, not, ◌||◌, length, arith}
use Rattle.std.specs.Prelude.{Option, Some, None, ℤ, ◌≤ℤ◌, ◌<ℤ◌, int_le, slice_get, option_map}
use Rattle.std.specs.List.{list_any}
use Rattle.std.proofs.lemmas.Bool.{and_parts, and_from}
use Rattle.std.proofs.lemmas.Bool.Decides.{nat_tests}
use Rattle.std.proofs.lemmas.Int.{ints}
use Rattle.std.proofs.lemmas.Option.{slice_get_within}
use Rattle.transit_base.specs.declared.numbers.ProductId.{ProductId}
use Rattle.transit_base.specs.declared.numbers.ProductRowId.{ProductRowId}
use Rattle.feed_rows.specs.declared.journeys.Buyer.{Buyer}
use Rattle.feed_rows.specs.declared.rows.ProductRow.{ProductRow}
use Rattle.feed_rows.specs.FeedRows.{FeedRows}
use Rattle.plain_laws.specs.Plain.{at_and, find_below}
use Rattle.feed_rows.specs.FareChoices.{is_open}
use Rattle.feed_rows.specs.OpenRows.{is_least_open, least_open_row}
use Rattle.plain_laws.proofs.Laws.{filled_and-true, IsFirst, NonePass, find_below_hit, find_below_cases, find_below_tells, least_of_some, place_of_any, list_all-at, list_all-from}

-- the row is open, no open row is cheaper, and each open row before it is dearer
pub record IsLeastOpenRow (feed : FeedRows) (product : ProductId) (buyer : Buyer)
    (id : ProductRowId) : Type 0 where
  pub row : ProductRow
  pub is : slice_get feed.products id.0 ≡ Some row
  pub opens : is_open product buyer row ≡ true
  pub least : (j : ℕ) (other : ProductRow) → slice_get feed.products j ≡ Some other →
      is_open product buyer other ≡ true → row.amount.0 ≤ℤ other.amount.0
  pub dearer : (j : ℕ) (other : ProductRow) → j < id.0 → slice_get feed.products j ≡ Some other →
      is_open product buyer other ≡ true → row.amount.0 <ℤ other.amount.0

-- ---- tests of whole numbers

int_le-true : (a b : ℤ) → int_le a b ≡ true → a ≤ℤ b
int_le-true a b h = grind (arith, ints, nat_tests)

int_le-from : (a b : ℤ) → a ≤ℤ b → int_le a b ≡ true
int_le-from a b h = grind (arith, ints, nat_tests)

int_le-trans : (a b c : ℤ) → int_le a b ≡ true → int_le b c ≡ true → int_le a c ≡ true
int_le-trans a b c p q = let le = int_le-true a b p in let le' = int_le-true b c q in int_le-from a c
    (omega (arith, ints, le, le'))

int_le-either : (a b : ℤ) → (int_le a b || int_le b a) ≡ true
int_le-either a b = grind (arith, ints, nat_tests)

-- what isn't at most a number is above it
above : (a b : ℤ) → (a ≤ℤ b → ⊥) → b <ℤ a
above a b not_le = grind (arith, ints, nat_tests)

-- ---- the row that is found

module _ (feed : FeedRows) (product : ProductId) (buyer : Buyer) where
  -- a row passes where it is open and no open row is cheaper
  passes_from : (row : ProductRow) → is_open product buyer row ≡ true →
      ((j : ℕ) (other : ProductRow) → slice_get feed.products j ≡ Some other → is_open product buyer other ≡ true →
      row.amount.0 ≤ℤ other.amount.0) →
      is_least_open feed product buyer row ≡ true
  unfolding is_least_open
  passes_from row opens least =
      and_from _ _ opens (list_all-from _ feed.products
      (λ j other at. step (is_open product buyer other) other refl (least j other at)))
    where
      step : (b : Bool) (other : ProductRow) → is_open product buyer other ≡ b →
          (is_open product buyer other ≡ true → row.amount.0 ≤ℤ other.amount.0) →
          (not b || int_le row.amount.0 other.amount.0) ≡ true
      step true other e le = int_le-from row.amount.0 other.amount.0 (le e)
      step false other e le = refl

  passes_opens : (row : ProductRow) → is_least_open feed product buyer row ≡ true → is_open product buyer row ≡ true
  unfolding is_least_open
  passes_opens row passes = (and_parts (is_open product buyer row) _ passes).0

  passes_least : (row : ProductRow) → is_least_open feed product buyer row ≡ true → (j : ℕ) (other : ProductRow) →
      slice_get feed.products j ≡ Some other → is_open product buyer other ≡ true →
      row.amount.0 ≤ℤ other.amount.0
  unfolding is_least_open
  passes_least row passes j other at opens =
      step (is_open product buyer other) opens (list_all-at
      (λ r. not (is_open product buyer r) || int_le row.amount.0 r.amount.0) feed.products j other
      (and_parts (is_open product buyer row) _ passes).1 at)
    where
      step : (b : Bool) → b ≡ true → (not b || int_le row.amount.0 other.amount.0) ≡ true →
          row.amount.0 ≤ℤ other.amount.0
      step true e h = int_le-true row.amount.0 other.amount.0 h
      step false e h = absurd (cc)

  -- what is found is the first open row of least amount
  pub least_open_row-some : (id : ProductRowId) → least_open_row feed product buyer ≡ Some id →
      IsLeastOpenRow feed product buyer id
  unfolding least_open_row
  least_open_row-some id found = by (find_below (length feed.products)
      (λ i. at_and feed.products i (is_least_open feed product buyer))) refl found
    where
      of_first : (i : ℕ) → IsFirst (λ i. at_and feed.products i (is_least_open feed product buyer))
          (length feed.products) i → IsLeastOpenRow feed product buyer (record { 0 = i })
      of_first i first =
          let here = filled_and-true (slice_get feed.products i) (is_least_open feed product buyer) first.passes in
          record {
            row = here.value;
            is = here.is;
            opens = passes_opens here.value here.passes;
            least = passes_least here.value here.passes;
            dearer = λ j other lt at opens. above other.amount.0 here.value.amount.0
                (λ le. earlier j other lt at opens here.value here.passes le (first.earlier j lt));
          }
        where
          earlier : (j : ℕ) (other : ProductRow) → j < i → slice_get feed.products j ≡ Some other →
              is_open product buyer other ≡ true → (row : ProductRow) → is_least_open feed product buyer row ≡ true →
              other.amount.0 ≤ℤ row.amount.0 → at_and feed.products j (is_least_open feed product buyer) ≡ false → ⊥
          earlier j other lt at opens row passes le fails =
              let least : is_least_open feed product buyer other ≡ true = passes_from other opens
              (λ k third at' opens'. trans other.amount.0 row.amount.0 third.amount.0 le
              (passes_least row passes k third at' opens')) in
              let fails' : is_least_open feed product buyer other ≡ false = rw at at fails in
              let bad : true ≡ false = sym least ∙ fails' in
              cc
            where
              trans : (a b c : ℤ) → a ≤ℤ b → b ≤ℤ c → a ≤ℤ c
              trans a b c p q = omega (arith, ints, p, q)

      by : (o : Option ℕ) → find_below (length feed.products)
          (λ i. at_and feed.products i (is_least_open feed product buyer)) ≡ o →
          option_map (λ i. record { 0 = i }) o ≡ Some id → IsLeastOpenRow feed product buyer id
      by None is e = absurd (cc)
      by (Some i) is e =
          let same : record { 0 = i } ≡ id = cc in
          subst (IsLeastOpenRow feed product buyer) same
          (of_first i (find_below_tells (λ i. at_and feed.products i (is_least_open feed product buyer))
          (length feed.products) i is))

  -- and such a row is found
  pub least_open_row-found : (id : ProductRowId) → IsLeastOpenRow feed product buyer id →
      least_open_row feed product buyer ≡ Some id
  unfolding least_open_row
  least_open_row-found id least =
      ap (option_map (λ i. record { 0 = i }))
      (find_below_hit (λ i. at_and feed.products i (is_least_open feed product buyer)) (length feed.products) id.0
      (record {
        within = slice_get_within feed.products id.0 least.row least.is;
        passes = at_row id.0 least.row least.is _ (passes_from least.row least.opens least.least);
        earlier = λ j lt. fails (slice_get feed.products j) j refl (λ other at opens. least.dearer j other lt at opens);
      }))
    where
      at_row : (i : ℕ) (row : ProductRow) → slice_get feed.products i ≡ Some row → (b : Bool) →
          is_least_open feed product buyer row ≡ b → at_and feed.products i (is_least_open feed product buyer) ≡ b
      at_row i row at b e = rw at e

      other_fails : (other : ProductRow) → (is_open product buyer other ≡ true →
          least.row.amount.0 <ℤ other.amount.0) → (b : Bool) → is_least_open feed product buyer other ≡ b → b ≡ false
      other_fails other dearer true e = absurd (clash other.amount.0 least.row.amount.0
          (passes_least other e id.0 least.row least.is least.opens) (dearer (passes_opens other e)))
        where
          clash : (a b : ℤ) → a ≤ℤ b → b <ℤ a → ⊥
          clash a b le lt = omega (arith, ints, le, lt)
      other_fails other dearer false e = refl

      fails : (o : Option ProductRow) (j : ℕ) → slice_get feed.products j ≡ o →
          ((other : ProductRow) → o ≡ Some other → is_open product buyer other ≡ true →
          least.row.amount.0 <ℤ other.amount.0) →
          at_and feed.products j (is_least_open feed product buyer) ≡ false
      fails None j at dearer = rw at refl
      fails (Some other) j at dearer = rw at (other_fails other (dearer other refl) _ refl)

  -- none is found where no row is open
  pub least_open_row-none : least_open_row feed product buyer ≡ None →
      list_any (is_open product buyer) feed.products ≡ false
  unfolding least_open_row is_least_open
  least_open_row-none none = by (list_any (is_open product buyer) feed.products) refl
    where
      id_of : ℕ → ProductRowId
      id_of i = record { 0 = i }

      none_found : (o : Option ℕ) → option_map (λ i. id_of i) o ≡ None → o ≡ None
      none_found None e = refl
      none_found (Some i) e = absurd (cc)

      step : ((i : ℕ) × (find_below (length feed.products)
          (λ i. at_and feed.products i (is_least_open feed product buyer)) ≡ Some i)
          × IsFirst (λ i. at_and feed.products i (is_least_open feed product buyer)) (length feed.products) i)
          ⊎ ((find_below (length feed.products) (λ i. at_and feed.products i (is_least_open feed product buyer))
          ≡ None) × NonePass (λ i. at_and feed.products i (is_least_open feed product buyer))
          (length feed.products)) →
          (j : ℕ) (row : ProductRow) → slice_get feed.products j ≡ Some row →
          is_least_open feed product buyer row ≡ true → ⊥
      step (inl found) j row at passes = let gone = none_found _ none in let bad = sym found.1 ∙ gone in cc
      step (inr all) j row at passes =
          let fails : is_least_open feed product buyer row ≡ false = rw at at
          (all.1 j (slice_get_within feed.products j row at)) in
          let bad : true ≡ false = sym passes ∙ fails in
          cc

      by : (b : Bool) → list_any (is_open product buyer) feed.products ≡ b → b ≡ false
      by false e = refl
      by true e =
          let l = least_of_some (is_open product buyer)
          (λ row. row.amount.0) int_le int_le-trans int_le-either feed.products e in
          let place = place_of_any (is_least_open feed product buyer) feed.products
          (l.is_item (is_least_open feed product buyer) (and_from _ _ l.passes l.least)) in
          absurd (step (find_below_cases (λ i. at_and feed.products i (is_least_open feed product buyer))
          (length feed.products)) place.index place.item place.is place.passes)
