-- The cheapest of a product's rows that are open to a buyer, row by row.
use Rattle.std.proofs.Common.{◌≡◌, refl, sym, ◌∙◌, ap, subst, ℕ, zero, suc, ◌+◌, ◌<◌, ◌≤◌, ◌⊎◌, inl, inr, arith}
use Rattle.std.proofs.Common.{Bool, true, false, List, [], ◌∷◌, ◌++◌, length, append-nil}
use Rattle.std.specs.Prelude.{Option, Some, None, ℤ, ◌≤ℤ◌, ◌<ℤ◌, int_lt, slice_get, option_map, IfSome}
use Rattle.std.proofs.lemmas.Bool.{cases_lt}
use Rattle.std.proofs.lemmas.Bool.Decides.{nat_tests}
use Rattle.std.proofs.lemmas.Int.{ints}
use Rattle.std.proofs.lemmas.Option.{slice_get_within, same_Some, none-some}
use Rattle.std.proofs.lemmas.List.Sums.{fold_push}
use Rattle.transit_base.specs.declared.numbers.ProductId.{ProductId}
use Rattle.transit_base.specs.declared.numbers.ProductRowId.{ProductRowId}
use Rattle.feed_rows.specs.declared.journeys.Buyer.{Buyer}
use Rattle.feed_rows.specs.declared.rows.ProductRow.{ProductRow}
use Rattle.feed_rows.specs.FeedRows.{FeedRows}
use Rattle.feed_rows.specs.FareChoices.{is_open}
use Rattle.feed_rows.specs.OpenRows.{least_open_row}
use Rattle.feed_rows.specs.FareSums.{amount_of}
use Rattle.feed_laws.proofs.OpenRowLaws.{least_open_row-some, least_open_row-found}
use Rattle.plain_laws.specs.Plain.{at_and, picks_below}
use Rattle.fare_products.specs.declared.Priced1.{Priced1}
use Rattle.fare_products.specs.declared.Products.{Products}
use Rattle.fare_products.specs.declared.offers.Offer.{Offer}
use Rattle.fare_products.specs.Offers.{offer, offer_at, offers_at, is_of, opens, cheaper, least_offer}
use Rattle.fare_products.specs.BuiltProducts.{AreProductsOf}

module _ (feed : FeedRows) (product : ProductId) (buyer : Buyer) where
  -- row i, where it is open
  abbrev IsOpenAt : ℕ → ProductRow → Type 0
  IsOpenAt i row = (slice_get feed.products i ≡ Some row) × (is_open product buyer row ≡ true)

  -- P holds of each open row below n
  abbrev EachOpen : ℕ → (ProductRow → Type 0) → Type 0
  EachOpen n P = (j : ℕ) (other : ProductRow) → j < n → IsOpenAt j other → P other

  -- and of one row more
  more : (P : ProductRow → Type 0) (n : ℕ) → EachOpen n P → ((other : ProductRow) → IsOpenAt n other → P other)
      → EachOpen (suc n) P
  more P n before here = λ j other lt at. by j other at (cases_lt j n) lt
    where
      by : (j : ℕ) (other : ProductRow) → IsOpenAt j other → (j < n) ⊎ (n ≤ j) → j < suc n → P other
      by j other at (inl inside) lt = before j other inside at
      by j other at (inr past) lt =
          let last : j ≡ n = omega arith in here other (subst (λ k. IsOpenAt k other) last at)

  -- the row is the only one at its place
  own : (P : ProductRow → Type 0) (n : ℕ) (row : ProductRow) → slice_get feed.products n ≡ Some row → P row
      → (other : ProductRow) → IsOpenAt n other → P other
  own P n row here holds other at = subst P (same_Some row other (sym here ∙ at.0)) holds

  -- of the first n rows, this one is open with this amount, none is cheaper, and those before it are dearer
  record IsLeastBelow (n : ℕ) (priced : Priced1) : Type 0 where
    row : ProductRow
    within : priced.row.0 < n
    is : slice_get feed.products priced.row.0 ≡ Some row
    opens : is_open product buyer row ≡ true
    amount : priced.amount.0 ≡ row.amount.0
    least : EachOpen n (λ other. row.amount.0 ≤ℤ other.amount.0)
    dearer : EachOpen priced.row.0 (λ other. row.amount.0 <ℤ other.amount.0)

  -- what is kept after n rows: such a row, or none where none of them is open
  abbrev Tells : ℕ → Option Priced1 → Type 0
  Tells n None = EachOpen n (λ other. ⊥)
  Tells n (Some priced) = IsLeastBelow n priced

  -- what is kept stays, where row n isn't open, or isn't cheaper
  stay : (n : ℕ) (priced : Priced1) (kept : IsLeastBelow n priced)
      → ((other : ProductRow) → IsOpenAt n other → kept.row.amount.0 ≤ℤ other.amount.0) → IsLeastBelow (suc n) priced
  stay n priced kept here =
      let within = kept.within in
      record {
        row = kept.row;
        within = omega arith;
        is = kept.is;
        opens = kept.opens;
        amount = kept.amount;
        least = more (λ other. kept.row.amount.0 ≤ℤ other.amount.0) n kept.least here;
        dearer = kept.dearer;
      }

  skip : (n : ℕ) (kept : Option Priced1) → Tells n kept → ((other : ProductRow) → IsOpenAt n other → ⊥)
      → Tells (suc n) kept
  skip n None none closed = more (λ other. ⊥) n none closed
  skip n (Some priced) kept closed = stay n priced kept (λ other at. absurd (closed other at))

  -- an open row that is cheaper than all before it is kept
  keep : (n : ℕ) (row : ProductRow) → slice_get feed.products n ≡ Some row → is_open product buyer row ≡ true
      → EachOpen n (λ other. row.amount.0 <ℤ other.amount.0)
      → IsLeastBelow (suc n) (record { row = record { 0 = n }; amount = row.amount })
  keep n row here passes cheap =
      record {
        row = row;
        within = omega arith;
        is = here;
        opens = passes;
        amount = refl;
        least = more at_least n (λ j other lt at. at_most row.amount.0 other.amount.0 (cheap j other lt at))
            (own at_least n row here (itself row.amount.0));
        dearer = cheap;
      }
    where
      at_least : ProductRow → Type 0
      at_least other = row.amount.0 ≤ℤ other.amount.0

      at_most : (a b : ℤ) → a <ℤ b → a ≤ℤ b
      at_most a b lt = omega (arith, ints, lt)

      itself : (a : ℤ) → a ≤ℤ a
      itself a = omega (arith, ints)

  -- a row of the product is open where its offer is, and one of another product isn't
  open_is : (n : ℕ) (row : ProductRow) → is_of product.0 row ≡ true
      → is_open product buyer row ≡ opens buyer (offer n row)
  unfolding is_open
  open_is n row of = rw of refl

  closed_is : (row : ProductRow) → is_of product.0 row ≡ false → is_open product buyer row ≡ false
  unfolding is_open
  closed_is row other = rw other refl

  -- a row that isn't open is no open row
  closed : (n : ℕ) (row : ProductRow) → slice_get feed.products n ≡ Some row → is_open product buyer row ≡ false
      → (other : ProductRow) → IsOpenAt n other → ⊥
  closed n row here shut other at =
      let same : row ≡ other = same_Some row other (sym here ∙ at.0) in
      let bad : true ≡ false = sym at.1 ∙ ap (is_open product buyer) (sym same) ∙ shut in
      cc

  -- one row more of the product
  step : (n : ℕ) (row : ProductRow) → slice_get feed.products n ≡ Some row → is_of product.0 row ≡ true
      → (kept : Option Priced1) → Tells n kept → Tells (suc n) (cheaper buyer kept (offer n row))
  step n row here of kept tells = by (opens buyer (offer n row)) refl kept tells
    where
      below : (a b c : ℤ) → a <ℤ b → b ≤ℤ c → a <ℤ c
      below a b c lt le = omega (arith, ints, lt, le)

      lt_of : (a b : ℤ) → int_lt a b ≡ true → a <ℤ b
      lt_of a b e = grind (arith, ints, nat_tests)

      le_of : (a b : ℤ) → int_lt a b ≡ false → b ≤ℤ a
      le_of a b e = grind (arith, ints, nat_tests)

      by : (b : Bool) → opens buyer (offer n row) ≡ b → (kept : Option Priced1) → Tells n kept
          → Tells (suc n) (cheaper buyer kept (offer n row))
      by false e kept tells = rw e (skip n kept tells (closed n row here (open_is n row of ∙ e)))
      by true e None none =
          rw e (keep n row here (open_is n row of ∙ e) (λ j other lt at. absurd (none j other lt at)))
      by true e (Some priced) least = compare (int_lt row.amount.0 priced.amount.0) refl
        where
          compare : (b : Bool) → int_lt row.amount.0 priced.amount.0 ≡ b
              → Tells (suc n) (cheaper buyer (Some priced) (offer n row))
          compare true less =
              let lt = lt_of row.amount.0 priced.amount.0 less in
              let cheap = subst (λ a. row.amount.0 <ℤ a) least.amount lt in
              rw (e, less) (keep n row here (open_is n row of ∙ e) (λ j other lt at.
              below row.amount.0 least.row.amount.0 other.amount.0 cheap (least.least j other lt at)))
          compare false not_less =
              let le = le_of row.amount.0 priced.amount.0 not_less in
              let dear = subst (λ a. a ≤ℤ row.amount.0) least.amount le in
              rw (e, not_less) (stay n priced least
              (own (λ other. least.row.amount.0 ≤ℤ other.amount.0) n row here dear))

  abbrev offers_below : ℕ → List Offer
  offers_below n = picks_below n (λ i. at_and feed.products i (is_of product.0)) (offer_at feed.products)

  -- what is kept after n rows
  tells : (n : ℕ) → Tells n (least_offer buyer (offers_below n))
  tells zero = λ j other lt at. absurd (omega arith)
  tells (suc n) = by (slice_get feed.products n) refl (tells n)
    where
      by : (o : Option ProductRow) → slice_get feed.products n ≡ o → Tells n (least_offer buyer (offers_below n))
          → Tells (suc n) (least_offer buyer (offers_below (suc n)))
      by None gone before =
          rw (gone, append-nil (offers_below n))
          (skip n (least_offer buyer (offers_below n)) before (λ other at. none-some other (sym gone ∙ at.0)))
      by (Some row) here before = of (is_of product.0 row) refl
        where
          at : offer_at feed.products n ≡ offer n row
          at = rw here refl

          of : (b : Bool) → is_of product.0 row ≡ b → Tells (suc n) (least_offer buyer (offers_below (suc n)))
          of false e =
              rw (here, e, append-nil (offers_below n))
              (skip n (least_offer buyer (offers_below n)) before (closed n row here (closed_is row e)))
          of true e =
              let last = fold_push (cheaper buyer) None (offers_below n) (offer n row) in
              subst (Tells (suc n)) (sym (ap (least_offer buyer) all ∙ last))
              (step n row here e (least_offer buyer (offers_below n)) before)
            where
              all : offers_below (suc n) ≡ offers_below n ++ offer n row ∷ []
              all = rw (here, e) refl

  -- what is kept in the end is the cheapest open row, with its amount
  pub record IsCheapest (kept : Option Priced1) : Type 0 where
    pub row : option_map (λ p. p.row) kept ≡ least_open_row feed product buyer
    pub amount : IfSome kept (λ p. p.amount.0 ≡ amount_of feed p.row)

  amount_is : (id : ProductRowId) (row : ProductRow) → slice_get feed.products id.0 ≡ Some row
      → amount_of feed id ≡ row.amount.0
  unfolding amount_of
  amount_is id row is = rw is refl

  cheapest : (kept : Option Priced1) → Tells (length feed.products) kept → IsCheapest kept
  cheapest None none = by (least_open_row feed product buyer) refl
    where
      by : (o : Option ProductRowId) → least_open_row feed product buyer ≡ o → IsCheapest None
      by None e = record { row = sym e; amount = tt }
      by (Some id) e =
          let found = least_open_row-some feed product buyer id e in
          let within = slice_get_within feed.products id.0 found.row found.is in
          absurd (none id.0 found.row within (found.is, found.opens))
  cheapest (Some priced) kept =
      record {
        row = sym (least_open_row-found feed product buyer priced.row (record {
          row = kept.row;
          is = kept.is;
          opens = kept.opens;
          least = λ j other at opens. kept.least j other (slice_get_within feed.products j other at) (at, opens);
          dearer = λ j other lt at opens. kept.dearer j other lt (at, opens);
        }));
        amount = kept.amount ∙ sym (amount_is priced.row kept.row kept.is);
      }

  -- and so of the products of the feed
  pub cheapest_of : (products : Products) → AreProductsOf feed products → (kept : Option Priced1)
      → kept ≡ least_offer buyer (offers_at products.by_product product.0) → IsCheapest kept
  cheapest_of products are kept is =
      let all = is ∙ ap (least_offer buyer) (are.of_product product.0) in
      let n = length feed.products in
      subst IsCheapest (sym all) (cheapest (least_offer buyer (offers_below n)) (tells n))
