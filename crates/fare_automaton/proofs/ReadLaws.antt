-- What rows read of changes from a leg group, and the open rows of products, as they are kept.
use Rattle.std.proofs.Common.{◌≡◌, refl, sym, ◌∙◌, ap, ℕ, zero, suc, ◌<◌, ◌≤◌, ◌⊎◌, inl, inr, Bool, true, false, ◌==◌, List, [], ◌∷◌, ◌++◌, length, map, take, get_or, max, Option, Some, None, arith}
use Rattle.std.specs.Prelude.{if◌then◌else◌, slice_get, fold, unwrap_or}
use Rattle.std.specs.Option.{option_map_or}
use Rattle.std.proofs.Math.Seq.{take-suc}
use Rattle.std.proofs.Common.{take_all}
use Rattle.std.proofs.lemmas.Bool.{cases_lt}
use Rattle.std.proofs.lemmas.Bool.Decides.{nat_tests}
use Rattle.std.proofs.lemmas.List.{map-append}
use Rattle.std.proofs.lemmas.List.Sums.{fold-append}
use Rattle.std.proofs.lemmas.Option.{same_Some, slice_get_past, slice_get_within, slice_get_cases}
use Rattle.transit_base.specs.declared.numbers.LegGroupId.{LegGroupId}
use Rattle.transit_base.specs.declared.numbers.ProductRowId.{ProductRowId}
use Rattle.feed_rows.specs.declared.journeys.Buyer.{Buyer}
use Rattle.feed_rows.specs.declared.rows.ProductRow.{ProductRow}
use Rattle.feed_rows.specs.declared.rows.TransferRuleRow.{TransferRuleRow}
use Rattle.feed_rows.specs.FeedRows.{FeedRows}
use Rattle.feed_rows.specs.SoundFares.{AreSoundProducts}
use Rattle.feed_rows.specs.FareChoices.{is_open, open_rows}
use Rattle.feed_rows.specs.FareStates.{is_within, count_within, greatest_count, is_clock_read, counts_from_departure, counts_from_arrival}
use Rattle.plain_laws.specs.Plain.{at_and, filled_and, list_below, picks_below}
use Rattle.plain_laws.proofs.Laws.{All-slice_get, length-list_below, slice_get-list_below, picks_below-none}
use Rattle.fare_transfer_rules.specs.declared.groups.ClassedRow.{ClassedRow}
use Rattle.fare_transfer_rules.specs.BuiltTransferRules.{AreRowsBetween, AreRowsFrom}
use Rattle.fare_transfer_rules.specs.Classes.{row_to}
use Rattle.fare_automaton.specs.declared.reads.GroupReads.{GroupReads}
use Rattle.fare_automaton.specs.Compiled.{reads_of, AreReads, count_at, has_limit, some_limit, AreOpenRows}

-- ---- leg groups

-- the greatest of the first rows that pass a test, and of those rows where the others count 0
greatest_picked : {X Y : Type 0} (rows : List X) (test : X → Bool) (id : ℕ → Y) (f : Y → ℕ) (h : X → ℕ)
    → ((i : ℕ) (row : X) → slice_get rows i ≡ Some row → f (id i) ≡ h row) → (n : ℕ) → n ≤ length rows
    → fold max 0 (map f (picks_below n (λ i. at_and rows i test) id)) ≡ fold max 0 (map (λ row. if test row then h row else 0) (take n rows))
greatest_picked rows test id f h same zero le = refl
greatest_picked {X} {Y} rows test id f h same (suc n) le = step (slice_get_cases rows n).1 (greatest_picked rows test id f h same n (omega arith))
  where
    more : (row : X) → slice_get rows n ≡ Some row → (b : Bool) → test row ≡ b → (z : ℕ)
        → fold max z (map f (if b then id n ∷ [] else [])) ≡ max z (if b then h row else 0)
    more row at true passes z = ap (max z) (same n row at)
    more row at false fails z = omega arith

    step : ((x : X) × (n < length rows) × (slice_get rows n ≡ Some x) × (get_or rows n x ≡ x)) ⊎ ((length rows ≤ n) × (slice_get rows n ≡ None))
        → fold max 0 (map f (picks_below n (λ i. at_and rows i test) id)) ≡ fold max 0 (map (λ row. if test row then h row else 0) (take n rows))
        → fold max 0 (map f (picks_below (suc n) (λ i. at_and rows i test) id)) ≡ fold max 0 (map (λ row. if test row then h row else 0) (take (suc n) rows))
    step (inl found) before =
        let row = found.0 in
        let picked = picks_below n (λ i. at_and rows i test) id in
        let here : at_and rows n test ≡ test row = ap (λ o. filled_and o test) found.2 in
        let count = λ (r : X). if test r then h r else 0 in
        ap (fold max 0) (map-append f picked (if at_and rows n test then id n ∷ [] else []))
        ∙ fold-append max 0 (map f picked) (map f (if at_and rows n test then id n ∷ [] else []))
        ∙ ap (λ b. fold max (fold max 0 (map f picked)) (map f (if b then id n ∷ [] else []))) here
        ∙ more row found.2 (test row) refl (fold max 0 (map f picked))
        ∙ ap (λ z. max z (count row)) before
        ∙ sym (fold-append max 0 (map count (take n rows)) (count row ∷ []))
        ∙ ap (fold max 0) (sym (map-append count (take n rows) (row ∷ [])))
        ∙ ap (λ (r : X). fold max 0 (map count (take n rows ++ r ∷ []))) (sym found.3)
        ∙ ap (λ (xs : List X). fold max 0 (map count xs)) (sym (take-suc rows n row found.1))
    step (inr past) before = absurd (let le' = past.0 in omega arith)

-- the greatest count of the rows for changes within the group
greatest_is : (feed : FeedRows) (group : LegGroupId) (rows : List TransferRuleRow) (among : List ClassedRow) → rows ≡ feed.transfer_rules
    → AreRowsBetween feed group group among → fold max 0 (map (λ (r : ClassedRow). count_at rows r.row) among) ≡ greatest_count feed group
unfolding greatest_count
greatest_is feed group rows among same are =
    ap (λ rs. fold max 0 (map (λ (r : ClassedRow). count_at rs r.row) among)) same
    ∙ ap (λ rs. fold max 0 (map (λ (r : ClassedRow). count_at feed.transfer_rules r.row) rs)) are.are
    ∙ greatest_picked feed.transfer_rules (is_within feed group) (row_to are.to_class) (λ (r : ClassedRow). count_at feed.transfer_rules r.row)
    (λ row. unwrap_or row.count 0)
    (λ i row at. ap (λ o. option_map_or (λ (r : TransferRuleRow). unwrap_or r.count 0) o 0) at) (length feed.transfer_rules) (omega arith)
    ∙ ap (λ rs. fold max 0 (map (count_within feed group) rs)) (take_all (length feed.transfer_rules) feed.transfer_rules (omega arith))

-- a limit of such a type that one of the rows from the group has
limits_are : (feed : FeedRows) (group : LegGroupId) (counts : ℕ → Bool) (rows : List TransferRuleRow) (among : List ClassedRow) → rows ≡ feed.transfer_rules
    → AreRowsFrom feed group among → some_limit counts rows among ≡ is_clock_read feed counts group
unfolding is_clock_read
limits_are feed group counts rows among same are = ap (λ rs. some_limit counts rs among) same ∙ are (has_limit counts)

-- what the rows within the group and from it say is what is read
pub reads_are : (feed : FeedRows) (group : LegGroupId) (rows : List TransferRuleRow) (within from : List ClassedRow) (count : ℕ) (departure arrival : Bool)
    → rows ≡ feed.transfer_rules → AreRowsBetween feed group group within → AreRowsFrom feed group from
    → count ≡ fold max 0 (map (λ (r : ClassedRow). count_at rows r.row) within)
    → departure ≡ some_limit counts_from_departure rows from → arrival ≡ some_limit counts_from_arrival rows from
    → record { greatest_count = count; departure = departure; arrival = arrival } ≡ reads_of feed group
reads_are feed group rows within from count departure arrival same are_within are_from is_count is_departure is_arrival =
    let greatest : count ≡ greatest_count feed group = is_count ∙ greatest_is feed group rows within same are_within in
    let departs : departure ≡ is_clock_read feed counts_from_departure group =
    is_departure ∙ limits_are feed group counts_from_departure rows from same are_from in
    let arrives : arrival ≡ is_clock_read feed counts_from_arrival group =
    is_arrival ∙ limits_are feed group counts_from_arrival rows from same are_from in
    rw (greatest, departs, arrives) refl

-- what is kept for a group
pub read_is : (feed : FeedRows) (reads : List GroupReads) (group : LegGroupId) (own : GroupReads) → AreReads feed reads
    → slice_get reads group.0 ≡ Some own → own ≡ reads_of feed group
read_is feed reads group own are at =
    let within = slice_get_within reads group.0 own at in
    let long : length reads ≡ length feed.group_names = ap length are ∙ length-list_below (length feed.group_names) (λ g. reads_of feed (record { 0 = g })) in
    same_Some _ _ (sym at ∙ ap (λ rs. slice_get rs group.0) are
    ∙ slice_get-list_below (length feed.group_names) (λ g. reads_of feed (record { 0 = g })) group.0 (omega (arith, within, long)))

-- ---- products

-- what is kept for each product below their number is kept for each product, since no row is of any other
pub open_are : (feed inside : FeedRows) (buyer : Buyer) (opened : List (List ProductRowId)) (n : ℕ) → inside ≡ feed → AreSoundProducts inside
    → n ≡ length inside.product_names → opened ≡ list_below n (λ product. open_rows feed (record { 0 = product }) buyer) → AreOpenRows feed buyer opened
unfolding is_open
open_are feed inside buyer opened n view sound count is product = step (cases_lt product.0 n)
  where
    long : length opened ≡ n
    long = ap length is ∙ length-list_below n (λ p. open_rows feed (record { 0 = p }) buyer)

    other : n ≤ product.0 → (row : ProductRow) → row.product.0 < length inside.product_names → is_open product buyer row ≡ false
    other past row lt =
        let apart : (row.product.0 == product.0) ≡ false = grind (arith, nat_tests, lt, past, count) in
        rw apart refl

    fails : n ≤ product.0 → (i : ℕ) (o : Option ProductRow) → slice_get inside.products i ≡ o → filled_and o (is_open product buyer) ≡ false
    fails past i None at = refl
    fails past i (Some row) at = other past row (All-slice_get (λ p. p.product.0 < length inside.product_names) inside.products i row at sound.names)

    step : (product.0 < n) ⊎ (n ≤ product.0) → unwrap_or (slice_get opened product.0) [] ≡ open_rows feed product buyer
    step (inl lt) =
        ap (λ o. unwrap_or o []) (ap (λ os. slice_get os product.0) is ∙ slice_get-list_below n (λ p. open_rows feed (record { 0 = p }) buyer) product.0 lt)
    step (inr past) =
        ap (λ o. unwrap_or o []) (slice_get_past opened product.0 (omega (arith, long, past)))
        ∙ sym (picks_below-none (length inside.products) _ (λ i. record { 0 = i }) (λ i lt. fails past i (slice_get inside.products i) refl))
        ∙ ap (λ (f : FeedRows). open_rows f product buyer) view
