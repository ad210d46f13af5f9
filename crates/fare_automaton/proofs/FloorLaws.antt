-- The least of amounts, row by row, and its bounds.
use Rattle.std.proofs.Common.{◌≡◌, refl, sym, ◌∙◌, ap, ℕ, suc, ◌+◌, ◌<◌, ◌≤◌, ◌^◌, Bool, true, false, List, [], ◌∷◌, ◌++◌, take, get_or, length, arith, cond}
use Rattle.std.specs.Prelude.{if◌then◌else◌, ℤ, pos, ◌+ℤ◌, nat_abs, int_lt, slice_get, map, fold, Some}
use Rattle.std.specs.Int.{int_min}
use Rattle.std.proofs.lemmas.Int.{ints}
use Rattle.std.proofs.Math.Seq.{take-suc}
use Rattle.std.proofs.lemmas.List.Sums.{fold-append}
use Rattle.std.proofs.lemmas.List.{map-append}
use Rattle.feed_rows.specs.declared.journeys.Buyer.{Buyer}
use Rattle.feed_rows.specs.declared.rows.ProductRow.{ProductRow}
use Rattle.feed_rows.specs.declared.rows.LegRuleRow.{LegRuleRow}
use Rattle.feed_rows.specs.declared.rows.TransferRuleRow.{TransferRuleRow}
use Rattle.std.specs.List.{list_any}
use Rattle.feed_rows.specs.FareChoices.{is_open}
use Rattle.plain_laws.specs.Plain.{filled_and}
use Rattle.feed_rows.specs.FeedRows.{FeedRows}
use Rattle.feed_rows.specs.SoundFares.{AreSoundProducts}
use Rattle.feed_rows.specs.FareFloor.{least_amount, is_for_legs, fare_floor}
use Rattle.plain_laws.proofs.Laws.{All-slice_get}

-- the least of the first rows, with one more
pub least_more : {X : Type 0} (f : X → ℤ) (rows : List X) (i : ℕ) (d : X) (a least new : ℤ) → i < length rows →
    least ≡ fold int_min a (map f (take i rows)) → new ≡ int_min least (f (get_or rows i d)) →
    new ≡ fold int_min a (map f (take (i + 1) rows))
least_more f rows i d a least new lt is made =
    let one : i + 1 ≡ suc i = omega arith in
    let next : take (i + 1) rows ≡ take i rows ++ (get_or rows i d ∷ []) = ap (λ (n : ℕ). take n rows) one ∙ take-suc rows i d lt in
    made
    ∙ ap (λ (z : ℤ). int_min z (f (get_or rows i d))) is
    ∙ sym (fold-append int_min a (map f (take i rows)) (f (get_or rows i d) ∷ []))
    ∙ ap (fold int_min a) (sym (map-append f (take i rows) (get_or rows i d ∷ [])))
    ∙ ap (λ (xs : List _). fold int_min a (map f xs)) (sym next)

-- the lesser of two amounts that lie within m does so too
lesser_low : (m : ℕ) (x y : ℤ) → nat_abs x ≤ m → nat_abs y ≤ m → nat_abs (int_min x y) ≤ m
lesser_low m x y low low' = by (int_lt y x)
  where
    by : (b : Bool) → nat_abs (cond b y x) ≤ m
    by true = low'
    by false = low

-- and the least of many
least_low : {X : Type 0} (f : X → ℤ) (m : ℕ) (xs : List X) (a : ℤ) → nat_abs a ≤ m →
    ((i : ℕ) (x : X) → slice_get xs i ≡ Some x → nat_abs (f x) ≤ m) → nat_abs (fold int_min a (map f xs)) ≤ m
least_low f m [] a low each = low
least_low f m (x ∷ xs) a low each =
    least_low f m xs (int_min a (f x)) (lesser_low m a (f x) low (each 0 x refl)) (λ i y is. each (suc i) y is)

pub least_amount-low : (feed : FeedRows) (test : ProductRow → Bool) → AreSoundProducts feed → nat_abs (least_amount test feed.products) ≤ 10 ^ 12
least_amount-low feed test sound =
    least_low (λ row. if test row then row.amount.0 else pos 0) (10 ^ 12) feed.products (pos 0) (omega (arith, ints))
    (λ i row is. low (test row) row.amount.0 (All-slice_get (λ p. nat_abs p.amount.0 ≤ 10 ^ 12) feed.products i row is sound.amounts))
  where
    low : (b : Bool) (z : ℤ) → nat_abs z ≤ 10 ^ 12 → nat_abs (if b then z else pos 0) ≤ 10 ^ 12
    low true z within = within
    low false z within = omega (arith, ints)

-- the least amount of the first rows, with one more that counts or not
pub least_row : (test : ProductRow → Bool) (rows : List ProductRow) (i : ℕ) (d : ProductRow) (b : Bool) (least new : ℤ) →
    i < length rows → least ≡ least_amount test (take i rows) → b ≡ test (get_or rows i d) →
    new ≡ int_min least (if b then (get_or rows i d).amount.0 else pos 0) → new ≡ least_amount test (take (i + 1) rows)
least_row test rows i d b least new lt is tested made =
    least_more (λ row. if test row then row.amount.0 else pos 0) rows i d (pos 0) least new lt is
    (made ∙ ap (λ (c : Bool). int_min least (if c then (get_or rows i d).amount.0 else pos 0)) tested)

-- amounts of the rows of a sound feed are low
pub parts_low : (inside : FeedRows) (rows : List ProductRow) (test : ProductRow → Bool) (a : ℤ) → AreSoundProducts inside →
    rows ≡ inside.products → a ≡ least_amount test rows → nat_abs a ≤ 10 ^ 12
parts_low inside rows test a sound same is =
    rw (is, same) (least_amount-low inside test sound)

-- the floor is the sum of both parts
pub floor_of_parts : (feed inside : FeedRows) (buyer : Buyer) (rows : List ProductRow) (legs : List LegRuleRow)
    (changes : List TransferRuleRow) (a b : ℤ) → inside ≡ feed → rows ≡ inside.products → legs ≡ inside.leg_rules →
    changes ≡ inside.transfer_rules →
    a ≡ least_amount (λ row. list_any (λ rule. is_open rule.product buyer row) legs) rows →
    b ≡ least_amount (λ row. list_any (λ rule. filled_and rule.product (λ product. is_open product buyer row)) changes) rows →
    a +ℤ b ≡ fare_floor feed buyer
unfolding fare_floor
floor_of_parts feed inside buyer rows legs changes a b view same same_legs same_changes is_a is_b =
    ap (λ (x : ℤ). x +ℤ b) (is_a ∙ rw (same, same_legs, view) refl)
    ∙ ap (λ (y : ℤ). least_amount (is_for_legs feed buyer) feed.products +ℤ y) (is_b ∙ rw (same, same_changes, view) refl)
