-- The rows of a product, of the rows of all products.
use Rattle.std.proofs.Common.{◌≡◌, refl, sym, ◌∙◌, ap, subst, ℕ, zero, suc, ◌<◌, ◌≤◌, ◌⊎◌, inl, inr, arith}
use Rattle.std.proofs.Common.{Bool, true, false, List, [], ◌∷◌, ◌++◌, length, map, filter}
use Rattle.std.specs.Prelude.{Option, Some, None, slice_get, if◌then◌else◌}
use Rattle.std.proofs.lemmas.Bool.{cases_lt}
use Rattle.std.proofs.lemmas.Bool.Decides.{nat_tests}
use Rattle.std.proofs.lemmas.List.{map-append}
use Rattle.std.proofs.lemmas.List.Elements.{filter-append}
use Rattle.transit_base.specs.declared.numbers.ProductId.{ProductId}
use Rattle.transit_base.specs.declared.numbers.ProductRowId.{ProductRowId}
use Rattle.feed_rows.specs.declared.journeys.Buyer.{Buyer}
use Rattle.feed_rows.specs.declared.rows.ProductRow.{ProductRow}
use Rattle.feed_rows.specs.FeedRows.{FeedRows}
use Rattle.feed_rows.specs.SoundFeed.{IsSoundFeed}
use Rattle.feed_rows.specs.FareChoices.{is_open, open_rows}
use Rattle.item_groups.specs.declared.groups.Grouped.{Grouped}
use Rattle.plain_laws.specs.Plain.{at_and, filled_and, ids_where, picks_below}
use Rattle.item_groups.specs.Groups.{group_of, groups_below}
use Rattle.plain_laws.proofs.Laws.{All-slice_get, picks_below-none}
use Rattle.item_groups.proofs.GroupLaws.{groups_below-at, groups_below-past}
use Rattle.fare_products.specs.declared.Products.{Products}
use Rattle.fare_products.specs.declared.offers.Offer.{Offer}
use Rattle.fare_products.specs.Offers.{offer, offer_at, offers_at, is_of, opens, opened}
use Rattle.fare_products.specs.BuiltProducts.{AreProductsOf}

-- each product has its rows, and no row is of a product that isn't there
pub built : (feed inside : FeedRows) (rows : List ProductRow) (n : ℕ) (members : List (Grouped Offer))
    (products : Products) → inside ≡ feed → IsSoundFeed inside → rows ≡ inside.products
    → n ≡ length inside.product_names
    → ((product : ℕ) → group_of members product ≡ ids_where (offer_at rows) (is_of product) rows)
    → products.by_product ≡ groups_below n members → products.decimals ≡ inside.decimals → AreProductsOf feed products
built feed inside rows n members products view sound same count each are decimals =
    subst (λ f. AreProductsOf f products) view
    (record {
      of_product = λ product. ap (λ groups. offers_at groups product) are ∙ step product (cases_lt product n);
      decimals = decimals;
    })
  where
    -- no row is of a product past the last
    fails : (product : ℕ) → n ≤ product → (i : ℕ) (o : Option ProductRow) → slice_get inside.products i ≡ o
        → filled_and o (is_of product) ≡ false
    fails product past i None got = refl
    fails product past i (Some row) got = no (is_of product row) refl
      where
        no : (b : Bool) → is_of product row ≡ b → b ≡ false
        no false e = refl
        no true e =
            let names = sound.products.names in
            let lt = All-slice_get (λ r. r.product.0 < length inside.product_names) inside.products i row got names in
            absurd (let is : row.product.0 ≡ product = grind (arith, nat_tests, e) in omega arith)

    step : (product : ℕ) → (product < n) ⊎ (n ≤ product)
        → offers_at (groups_below n members) product
        ≡ ids_where (offer_at inside.products) (is_of product) inside.products
    step product (inl lt) =
        groups_below-at n members product lt ∙ each product ∙ ap (λ rs. ids_where (offer_at rs) (is_of product) rs) same
    step product (inr past) =
        groups_below-past n members product past
        ∙ sym (picks_below-none (length inside.products) _ (offer_at inside.products)
        (λ i lt. fails product past i (slice_get inside.products i) refl))

-- ---- the open rows

opened-append : (buyer : Buyer) (xs ys : List Offer)
    → opened buyer (xs ++ ys) ≡ opened buyer xs ++ opened buyer ys
opened-append buyer xs ys =
    ap (map (λ o. o.row)) (filter-append (opens buyer) xs ys)
    ∙ map-append (λ o. o.row) (filter (opens buyer) xs) (filter (opens buyer) ys)

-- the open rows are those of the feed
pub opened_is : (feed : FeedRows) (products : Products) → AreProductsOf feed products
    → (product : ProductId) (buyer : Buyer)
    → opened buyer (offers_at products.by_product product.0) ≡ open_rows feed product buyer
unfolding is_open
opened_is feed products are product buyer = ap (opened buyer) (are.of_product product.0) ∙ each (length feed.products)
  where
    id_of : ℕ → ProductRowId
    id_of i = record { 0 = i }

    -- row i where it is of the product, and where it is open
    own : ℕ → Option ProductRow → List Offer
    own i o = if filled_and o (is_of product.0) then offer_at feed.products i ∷ [] else []

    open_one : ℕ → Option ProductRow → List ProductRowId
    open_one i o = if filled_and o (is_open product buyer) then id_of i ∷ [] else []

    here : (i : ℕ) (o : Option ProductRow) → slice_get feed.products i ≡ o → opened buyer (own i o) ≡ open_one i o
    here i None got = refl
    here i (Some row) got = by (is_of product.0 row) refl (opens buyer (offer i row)) refl
      where
        at : offer_at feed.products i ≡ offer i row
        at = rw got refl

        by : (b : Bool) → is_of product.0 row ≡ b → (d : Bool) → opens buyer (offer i row) ≡ d
            → opened buyer (own i (Some row)) ≡ open_one i (Some row)
        by false e d f = rw e refl
        by true e true f = rw (e, at, f) refl
        by true e false f = rw (e, at, f) refl

    among : ℕ → List Offer
    among n = picks_below n (λ i. at_and feed.products i (is_of product.0)) (offer_at feed.products)

    rows : ℕ → List ProductRowId
    rows n = picks_below n (λ i. at_and feed.products i (is_open product buyer)) id_of

    each : (n : ℕ) → opened buyer (among n) ≡ rows n
    each zero = refl
    each (suc n) =
        opened-append buyer (among n) (own n (slice_get feed.products n))
        ∙ ap (λ xs. xs ++ opened buyer (own n (slice_get feed.products n))) (each n)
        ∙ ap (λ xs. rows n ++ xs) (here n (slice_get feed.products n) refl)
