-- The areas, timeframes, rider categories, media, products and fare rules of accepted tables are sound.
use Rattle.std.proofs.Common.{◌≡◌, refl, sym, ◌∙◌, ap, subst, ℕ, ◌<◌, ◌≤◌, ◌^◌, ◌⊎◌, inl, inr, Bool, true, false, List, [], ◌∷◌, length, arith}
use Rattle.std.specs.Prelude.{◌≢◌, Option, Some, None, ◌&&◌, ◌||◌, not, nat_lt, if◌then◌else◌, bytes_eq, nat_abs, is_some, IsSome, IsNone, ◌↔◌}
use Rattle.std.specs.Option.{ForSome}
use Rattle.std.proofs.lemmas.Bool.{cases_lt, and_from, and_cases, or_parts, not-false, lt-ltb, ltb-true}
use Rattle.std.proofs.lemmas.Option.{none-some, same_Some, cond_some}
use Rattle.transit_base.specs.Limits.{day_seconds}
use Rattle.transit_base.specs.declared.numbers.RiderId.{RiderId}
use Rattle.transit_base.specs.declared.numbers.MediumId.{MediumId}
use Rattle.transit_base.specs.declared.numbers.LegGroupId.{LegGroupId}
use Rattle.feed_files.specs.declared.names.FileName.TheVariants as file
use Rattle.feed_files.specs.declared.names.ColumnName.{ColumnName}
use Rattle.feed_files.specs.declared.names.ColumnName.TheVariants as column
use Rattle.plain_laws.specs.Plain.{when}
use Rattle.feed_rows.specs.SoundNames.{IsIdText}
use Rattle.feed_rows.specs.SoundFares.{AreSoundAreas, AreSoundStopAreas, AreSoundTimeframes, AreSoundRiders, AreSoundMedia, AreSoundProducts, AreSoundLegRules, AreSoundTransferRules, AreSoundJoinRules, IsSoundCurrency}
use Rattle.feed_faults.specs.declared.checks.IdColumn.TheVariants as ids
use Rattle.feed_faults.specs.Records.{FileTable, row_count, column_of, field, is_filled}
use Rattle.feed_faults.specs.FieldGrammars.{most_int}
use Rattle.feed_soundness.proofs.RuleShapes.{int, amount, currency}
use Rattle.feed_faults.specs.FeedTables.{FeedTables, table_in}
use Rattle.feed_faults.specs.FieldValues.{int_or_zero, frame_start, frame_end}
use Rattle.feed_faults.specs.RowKeys.{is_repeated}
use Rattle.feed_faults.specs.FareRelations.{is_one_filled, do_frames_overlap, is_bad_frame, same_product, is_count_misplaced, is_limit_half, is_one_stop_named}
use Rattle.feed_faults.specs.AcceptedFeed.{if_filled, row_number, name_number, service_names, network_names, frame_names, product_names, group_names, area_row, stop_area_row, timeframe_row, rider_row, medium_row, product_row, leg_rule_row, limit_of, transfer_rule_row, join_row, feed_currency, feed_decimals, rows_of_tables}
use Rattle.feed_soundness.specs.AcceptedTables.{AreFormed, AreRelated}
use Rattle.plain_laws.proofs.Laws.{length-list_below, All-list_below, AllPairs-list_below, bytes_eq-true, eq-bytes_eq}
use Rattle.feed_soundness.proofs.FieldLaws.{must_at, may_at, few_rows}
use Rattle.feed_soundness.proofs.ValueLaws.{int_good, int_small, int_of_nothing, time_small, count_good, count_filled, amount_good, IsCurrencyText, currency_good}
use Rattle.feed_soundness.proofs.KeyLaws.{MayBeKnown, same_number, apart, never_both}
use Rattle.feed_soundness.proofs.NameLaws.{same_name}
use Rattle.feed_soundness.proofs.IdColumns.{must_id, new_ids, new_keys}
use Rattle.feed_soundness.proofs.NameGroups as names
use Rattle.feed_soundness.proofs.References.{area_known, area_stop_known, product_rider_known, product_medium_known, leg_rule_network_named, leg_rule_from_area_known, leg_rule_to_area_known, leg_rule_from_frame_named, leg_rule_to_frame_named, leg_rule_product_named, rule_from_group_named, rule_to_group_named, rule_product_named, join_from_network_named, join_to_network_named, join_from_stop_known, join_to_stop_known}

-- a filled field has a value of which P holds
filled_all : {X : Type 0} (text : List ℕ) (x : X) (P : X → Type 0) → (is_filled text ≡ true → P x) → ForSome (if_filled text x) P
filled_all text x P good y e = let is = cond_some (is_filled text) x y e in subst P is.1 (good is.0)

module _ (t : FeedTables) (formed : AreFormed t) (related : AreRelated t) where
  -- areas.txt
  pub areas_sound : AreSoundAreas (rows_of_tables t)
  unfolding rows_of_tables area_row
  areas_sound =
      let rows = row_count (table_in t file.Areas) in
      let row = area_row t in
      record {
        few = few_rows row (formed file.Areas);
        ids = All-list_below (λ a. IsIdText a.id) rows row (λ i lt. (must_id t formed file.Areas i 0 column.AreaId lt refl).3);
        no_doubles = AllPairs-list_below (λ a b. a.id ≢ b.id) rows row (new_ids t related ids.Area _ _ refl);
      }

  -- stop_areas.txt
  pub stop_areas_sound : AreSoundStopAreas (rows_of_tables t)
  unfolding rows_of_tables stop_area_row
  stop_areas_sound =
      let rows = row_count (table_in t file.StopAreas) in
      let row = stop_area_row t in
      record {
        few = few_rows row (formed file.StopAreas);
        areas = All-list_below (λ s. s.area.0 < length (rows_of_tables t).areas) rows row
            (λ i lt. rw length-list_below (area_known t formed related i lt).within);
        stops = All-list_below (λ s. s.stop.0 < length (rows_of_tables t).stops) rows row
            (λ i lt. rw length-list_below (area_stop_known t formed related i lt).within);
      }

  -- rider_categories.txt
  pub riders_sound : AreSoundRiders (rows_of_tables t)
  unfolding rows_of_tables rider_row
  riders_sound =
      let rows = row_count (table_in t file.RiderCategories) in
      let row = rider_row t in
      record {
        few = few_rows row (formed file.RiderCategories);
        ids = All-list_below (λ r. IsIdText r.id) rows row
            (λ i lt. (must_id t formed file.RiderCategories i 0 column.RiderCategoryId lt refl).3);
        no_doubles =
            AllPairs-list_below (λ r s. r.id ≢ s.id) rows row (new_ids t related ids.RiderCategory _ _ refl);
      }

  -- fare_media.txt
  pub media_sound : AreSoundMedia (rows_of_tables t)
  unfolding rows_of_tables medium_row
  media_sound =
      let rows = row_count (table_in t file.FareMedia) in
      let row = medium_row t in
      record {
        few = few_rows row (formed file.FareMedia);
        ids = All-list_below (λ m. IsIdText m.id) rows row
            (λ i lt. (must_id t formed file.FareMedia i 0 column.FareMediaId lt refl).3);
        no_doubles = AllPairs-list_below (λ m n. m.id ≢ n.id) rows row (new_ids t related ids.FareMedia _ _ refl);
      }

-- one of two times that overlap neither way ends by the start of the other
times_apart : (same : Bool) (start end later_start later_end : ℕ)
    → (same && nat_lt later_start end && nat_lt start later_end) ≡ false → same ≡ true → (end ≤ later_start) ⊎ (later_end ≤ start)
times_apart same start end later_start later_end e is = step (cases_lt later_start end) (cases_lt start later_end)
  where
    step : (later_start < end) ⊎ (end ≤ later_start) → (start < later_end) ⊎ (later_end ≤ start)
        → (end ≤ later_start) ⊎ (later_end ≤ start)
    step (inr before) other = inl before
    step (inl one) (inr after) = inr after
    step (inl one) (inl two) =
        absurd (never_both (and_from _ _ (and_from _ _ is (lt-ltb later_start end one)) (lt-ltb start later_end two)) e)

module _ (frames : FileTable) (row : ℕ) where
  -- a timeframe ends with the day at the latest
  end_small : frame_end frames row ≤ day_seconds
  end_small = time_small day_seconds day_seconds (field frames row column.EndTime) (omega arith)

  -- a timeframe that isn't bad
  frame_good : is_bad_frame frames row ≡ false
      → (frame_start frames row < frame_end frames row) × (is_repeated (do_frames_overlap frames) row ≡ false)
  unfolding is_bad_frame
  frame_good good =
      let starts = nat_lt (frame_start frames row) (frame_end frames row) in
      let half = is_one_filled (field frames row column.StartTime) (field frames row column.EndTime) in
      let one = or_parts (half || not starts) (is_repeated (do_frames_overlap frames) row) good in
      (ltb-true (frame_start frames row) (frame_end frames row) (not-false starts (or_parts half (not starts) one.0).1), one.1)

module _ (t : FeedTables) (formed : AreFormed t) (related : AreRelated t) where
  -- timeframes of one group and one service don't overlap
  frames_apart : (i j : ℕ) → i < j → j < row_count (table_in t file.Timeframes)
      → (timeframe_row t i).frame.0 ≡ (timeframe_row t j).frame.0 → (timeframe_row t i).service.0 ≡ (timeframe_row t j).service.0
      → ((timeframe_row t i).end ≤ (timeframe_row t j).start) ⊎ ((timeframe_row t j).end ≤ (timeframe_row t i).start)
  unfolding timeframe_row do_frames_overlap
  frames_apart i j lt within group service =
      let frames = table_in t file.Timeframes in
      let first : i < row_count frames = omega arith in
      let groups = same_name _ _ _ (names.frame_group_named t formed i first) (names.frame_group_named t formed j within) group in
      let services = same_name _ _ _ (names.frame_service_named t formed i first) (names.frame_service_named t formed j within) service in
      let both = and_from _ _ (eq-bytes_eq _ _ (sym groups)) (eq-bytes_eq _ _ (sym services)) in
      let new = (frame_good frames j (related file.Timeframes j 1 _ within refl)).1 in
      times_apart _ _ _ _ _ (apart (do_frames_overlap frames) i j new lt) both

  -- timeframes.txt
  pub timeframes_sound : AreSoundTimeframes (rows_of_tables t)
  unfolding rows_of_tables timeframe_row
  timeframes_sound =
      let frames = table_in t file.Timeframes in
      let rows = row_count frames in
      let row = timeframe_row t in
      record {
        few = few_rows row (formed file.Timeframes);
        frames = All-list_below (λ f. f.frame.0 < length (frame_names t)) rows row
            (λ i lt. (names.frame_group_named t formed i lt).within);
        services = All-list_below (λ f. f.service.0 < length (service_names t)) rows row
            (λ i lt. (names.frame_service_named t formed i lt).within);
        ordered = All-list_below (λ f. f.start < f.end) rows row
            (λ i lt. (frame_good frames i (related file.Timeframes i 1 _ lt refl)).0);
        ends = All-list_below (λ f. f.end ≤ day_seconds) rows row
            (λ i lt. end_small frames i);
        apart =
            AllPairs-list_below (λ f g. f.frame.0 ≡ g.frame.0 → f.service.0 ≡ g.service.0 → (f.end ≤ g.start) ⊎ (g.end ≤ f.start)) rows row frames_apart;
      }

-- equal references that may be empty are of equal texts
same_reference : {X : Type 0} (make : ℕ → X) (number : X → ℕ) → ((n : ℕ) → number (make n) ≡ n)
    → (table : FileTable) (name : ColumnName) (a b : List ℕ) → MayBeKnown table name a → MayBeKnown table name b
    → if_filled a (make (row_number table name a)) ≡ if_filled b (make (row_number table name b)) → a ≡ b
same_reference make number back table name [] [] one other e = refl
same_reference make number back table name [] (y ∷ ys) one other e = absurd (none-some _ e)
same_reference make number back table name (x ∷ xs) [] one other e = absurd (none-some _ (sym e))
same_reference make number back table name (x ∷ xs) (y ∷ ys) one other e =
    let made = ap number (same_Some (make (row_number table name (x ∷ xs))) (make (row_number table name (y ∷ ys))) e) in
    same_number table name (x ∷ xs) (y ∷ ys) (one refl) (other refl) (sym (back _) ∙ made ∙ back _)

module _ (t : FeedTables) (formed : AreFormed t) (related : AreRelated t) where
  -- no two products are of one name, rider category and medium
  products_apart : (i j : ℕ) → i < j → j < row_count (table_in t file.FareProducts)
      → (product_row t i).product.0 ≡ (product_row t j).product.0 → (product_row t i).rider ≡ (product_row t j).rider
      → (product_row t i).medium ≢ (product_row t j).medium
  unfolding product_row same_product
  products_apart i j lt within product rider medium =
      let first : i < row_count (table_in t file.FareProducts) = omega arith in
      let products = same_name _ _ _ (names.product_named t formed i first) (names.product_named t formed j within) product in
      let make_rider : ℕ → RiderId = λ n. record { 0 = n } in
      let make_medium : ℕ → MediumId = λ n. record { 0 = n } in
      let riders = same_reference make_rider (λ r. r.0) (λ n. refl) _ column.RiderCategoryId _ _
      (product_rider_known t related i first) (product_rider_known t related j within) rider in
      let media = same_reference make_medium (λ m. m.0) (λ n. refl) _ column.FareMediaId _ _
      (product_medium_known t related i first) (product_medium_known t related j within) medium in
      never_both (and_from _ _ (and_from _ _ (eq-bytes_eq _ _ (sym products)) (eq-bytes_eq _ _ (sym riders))) (eq-bytes_eq _ _ (sym media)))
      (new_keys t related file.FareProducts 2 _ _ refl i j lt within)

  -- fare_products.txt
  pub products_sound : AreSoundProducts (rows_of_tables t)
  unfolding rows_of_tables product_row
  products_sound =
      let rows = row_count (table_in t file.FareProducts) in
      let row = product_row t in
      record {
        few = few_rows row (formed file.FareProducts);
        names = All-list_below (λ p. p.product.0 < length (product_names t)) rows row
            (λ i lt. (names.product_named t formed i lt).within);
        riders = All-list_below (λ p. ForSome p.rider (λ r. r.0 < length (rows_of_tables t).riders)) rows row
            (λ i lt. filled_all _ _ (λ r. r.0 < length (rows_of_tables t).riders) (λ filled. rw length-list_below (product_rider_known t related i lt filled).within));
        media = All-list_below (λ p. ForSome p.medium (λ m. m.0 < length (rows_of_tables t).media)) rows row
            (λ i lt. filled_all _ _ (λ m. m.0 < length (rows_of_tables t).media) (λ filled. rw length-list_below (product_medium_known t related i lt filled).within));
        no_doubles =
            AllPairs-list_below (λ p q. p.product.0 ≡ q.product.0 → p.rider ≡ q.rider → p.medium ≢ q.medium) rows row products_apart;
        amounts = All-list_below (λ p. nat_abs p.amount.0 ≤ 10 ^ 12) rows row
            (λ i lt. amount_good _ _ (must_at file.FareProducts _ i 4 column.Amount amount (formed file.FareProducts) lt refl).fit);
      }

-- the decimals that a currency may have
abbrev HasDecimals : ℕ → Type 0
HasDecimals n = (n ≡ 0) ⊎ (n ≡ 2) ⊎ (n ≡ 3)

-- the currency of the first product
module _ (t : FeedTables) (formed : AreFormed t) where
  currency_told : ForSome (feed_currency (table_in t file.FareProducts)) IsCurrencyText
  unfolding feed_currency
  currency_told text e =
      let is = cond_some (nat_lt 0 (row_count (table_in t file.FareProducts))) (field (table_in t file.FareProducts) 0 column.Currency) text e in
      let within = ltb-true 0 (row_count (table_in t file.FareProducts)) is.0 in
      rw (← is.1) (currency_good _ (must_at file.FareProducts _ 0 3 column.Currency currency (formed file.FareProducts) within refl).fit)

  currency_decimals_told : HasDecimals (feed_decimals (table_in t file.FareProducts))
  unfolding feed_decimals
  currency_decimals_told = step (feed_currency (table_in t file.FareProducts)) refl
    where
      step : (o : Option (List ℕ)) → feed_currency (table_in t file.FareProducts) ≡ o
          → HasDecimals (feed_decimals (table_in t file.FareProducts))
      step None e = rw e (inr (inl refl))
      step (Some text) e = rw e (currency_told text e).decimals

currency_known : (products : FileTable) → IsSome (feed_currency products) ↔ (1 ≤ row_count products)
unfolding feed_currency
currency_known products = (step (nat_lt 0 (row_count products)) refl, λ some. rw (lt-ltb 0 (row_count products) some) refl)
  where
    step : (b : Bool) → nat_lt 0 (row_count products) ≡ b → IsSome (when b (field products 0 column.Currency))
        → 1 ≤ row_count products
    step true e some = ltb-true 0 (row_count products) e
    step false e some = absurd (cc)

none_decimals : (products : FileTable) → IsNone (feed_currency products) → feed_decimals products ≡ 2
unfolding feed_decimals
none_decimals products none = step (feed_currency products) refl
  where
    step : (o : Option (List ℕ)) → feed_currency products ≡ o → feed_decimals products ≡ 2
    step None e = rw e refl
    step (Some text) e = absurd (let some_is_none = rw e at none in cc)

pub currency_sound : (t : FeedTables) → AreFormed t → IsSoundCurrency (rows_of_tables t)
unfolding rows_of_tables
currency_sound t formed =
    record {
      known = rw length-list_below (currency_known (table_in t file.FareProducts));
      code = λ text e. (currency_told t formed text e).code;
      letters = λ text e. (currency_told t formed text e).letters;
      decimals = currency_decimals_told t formed;
      no_currency = none_decimals (table_in t file.FareProducts);
    }

-- a column that isn't there has no field
no_column : (table : FileTable) (row : ℕ) (name : ColumnName) → is_some (column_of table name) ≡ false → field table row name ≡ []
unfolding field
no_column table row name none = step (column_of table name) refl
  where
    step : (o : Option ℕ) → column_of table name ≡ o → field table row name ≡ []
    step None e = rw e refl
    step (Some c) e = absurd (let some_is_none = rw e at none in cc)

-- fare_leg_rules.txt
pub leg_rules_sound : (t : FeedTables) → AreFormed t → AreRelated t → AreSoundLegRules (rows_of_tables t)
unfolding rows_of_tables leg_rule_row
leg_rules_sound t formed related =
    let rows = row_count (table_in t file.FareLegRules) in
    let row = leg_rule_row t in
    record {
      few = few_rows row (formed file.FareLegRules);
      groups = All-list_below (λ r. ForSome r.group (λ g. g.0 < length (group_names t))) rows row
          (λ i lt. filled_all _ _ (λ g. g.0 < length (group_names t)) (λ filled. (names.leg_group_named t i lt filled).within));
      networks = All-list_below (λ r. ForSome r.network (λ n. n.0 < length (network_names t))) rows row
          (λ i lt. filled_all _ _ (λ n. n.0 < length (network_names t)) (λ filled. (leg_rule_network_named t related i lt filled).within));
      from_areas = All-list_below (λ r. ForSome r.from_area (λ a. a.0 < length (rows_of_tables t).areas)) rows row
          (λ i lt. filled_all _ _ (λ a. a.0 < length (rows_of_tables t).areas) (λ filled. rw length-list_below (leg_rule_from_area_known t related i lt filled).within));
      to_areas = All-list_below (λ r. ForSome r.to_area (λ a. a.0 < length (rows_of_tables t).areas)) rows row
          (λ i lt. filled_all _ _ (λ a. a.0 < length (rows_of_tables t).areas) (λ filled. rw length-list_below (leg_rule_to_area_known t related i lt filled).within));
      from_frames = All-list_below (λ r. ForSome r.from_frame (λ f. f.0 < length (frame_names t))) rows row
          (λ i lt. filled_all _ _ (λ f. f.0 < length (frame_names t)) (λ filled. (leg_rule_from_frame_named t related i lt filled).within));
      to_frames = All-list_below (λ r. ForSome r.to_frame (λ f. f.0 < length (frame_names t))) rows row
          (λ i lt. filled_all _ _ (λ f. f.0 < length (frame_names t)) (λ filled. (leg_rule_to_frame_named t related i lt filled).within));
      products = All-list_below (λ r. r.product.0 < length (product_names t)) rows row
          (λ i lt. (leg_rule_product_named t related i lt (must_id t formed file.FareLegRules i 6 column.FareProductId lt refl).2).within);
      priorities = All-list_below (λ r. r.priority ≤ 2_147_483_647) rows row
          (λ i lt. int_small 0 most_int _);
      unranked = λ none. All-list_below (λ r. r.priority ≡ 0) rows row
          (λ i lt. let empty = no_column (table_in t file.FareLegRules) i column.RulePriority none in ap (int_or_zero 0 most_int) empty ∙ int_of_nothing 0 most_int);
    }

-- a count that isn't misplaced stands between equal groups, or where neither is named
count_between_same : (from to : List ℕ) (count : Bool)
    → ((is_filled from || is_filled to) && (if bytes_eq from to then not count else count)) ≡ false → count ≡ true → from ≡ to
count_between_same from to count e has = step (bytes_eq from to) refl
  where
    neither : (a b : List ℕ) → is_filled a || is_filled b ≡ false → a ≡ b
    neither [] [] none = refl
    neither [] (y ∷ ys) none = absurd (cc)
    neither (x ∷ xs) b none = absurd (cc)

    cases : ((is_filled from || is_filled to) ≡ false) ⊎ (true ≡ false) → from ≡ to
    cases (inl none) = neither from to none
    cases (inr never) = absurd (cc)

    step : (b : Bool) → bytes_eq from to ≡ b → from ≡ to
    step true same = bytes_eq-true from to same
    step false other = cases (and_cases (is_filled from || is_filled to) true (rw (other, has) at e))

-- of two fields of which not one alone is filled, the other is filled too
both_filled : (a b : Bool) → (a && not b) || (b && not a) ≡ false → a ≡ true → b ≡ true
both_filled true true e is = refl
both_filled true false e is = absurd (cc)
both_filled false b e is = absurd (cc)

module _ (t : FeedTables) (formed : AreFormed t) (related : AreRelated t) (row : ℕ) (lt : row < row_count (table_in t file.FareTransferRules)) where
  counted : ForSome (transfer_rule_row t row).count (λ n. (transfer_rule_row t row).from ≡ (transfer_rule_row t row).to)
  unfolding transfer_rule_row is_count_misplaced
  counted n e =
      let filled = count_filled _ n e in
      let same = count_between_same _ _ _ (related file.FareTransferRules row 0 _ lt refl) filled in
      let group : List ℕ → Option LegGroupId = λ text. if_filled text (record { 0 = name_number (group_names t) text }) in
      ap group same

  limit_told : ForSome (limit_of (table_in t file.FareTransferRules) row) (λ l. (1 ≤ l.seconds) × (l.seconds ≤ 2_147_483_647) × (l.kind ≤ 3))
  unfolding limit_of is_limit_half
  limit_told limit e =
      let rules = table_in t file.FareTransferRules in
      let is = cond_some (is_filled (field rules row column.DurationLimit)) _ limit e in
      let seconds = int_good 1 most_int _ (may_at file.FareTransferRules rules row 3 column.DurationLimit (int 1 most_int) (formed file.FareTransferRules) lt refl is.0) in
      let typed = both_filled _ (is_filled (field rules row column.DurationLimitType)) (related file.FareTransferRules row 1 _ lt refl) is.0 in
      let kind = int_good 0 3 _ (may_at file.FareTransferRules rules row 4 column.DurationLimitType (int 0 3) (formed file.FareTransferRules) lt refl typed) in
      rw (← is.1) (seconds.low, seconds.high, kind.high)

-- fare_transfer_rules.txt
pub transfer_rules_sound : (t : FeedTables) → AreFormed t → AreRelated t → AreSoundTransferRules (rows_of_tables t)
unfolding rows_of_tables transfer_rule_row
transfer_rules_sound t formed related =
    let rows = row_count (table_in t file.FareTransferRules) in
    let row = transfer_rule_row t in
    record {
      few = few_rows row (formed file.FareTransferRules);
      froms = All-list_below (λ r. ForSome r.from (λ g. g.0 < length (group_names t))) rows row
          (λ i lt. filled_all _ _ (λ g. g.0 < length (group_names t)) (λ filled. (rule_from_group_named t related i lt filled).within));
      tos = All-list_below (λ r. ForSome r.to (λ g. g.0 < length (group_names t))) rows row
          (λ i lt. filled_all _ _ (λ g. g.0 < length (group_names t)) (λ filled. (rule_to_group_named t related i lt filled).within));
      products = All-list_below (λ r. ForSome r.product (λ p. p.0 < length (product_names t))) rows row
          (λ i lt. filled_all _ _ (λ p. p.0 < length (product_names t)) (λ filled. (rule_product_named t related i lt filled).within));
      kinds = All-list_below (λ r. r.kind ≤ 2) rows row
          (λ i lt. int_small 0 2 _);
      counted = All-list_below (λ r. ForSome r.count (λ n. r.from ≡ r.to)) rows row (counted t formed related);
      counts = All-list_below (λ r. ForSome r.count (λ n. (1 ≤ n) × (n ≤ 2_147_483_647))) rows row
          (λ i lt. count_good _);
      limits = All-list_below (λ r. ForSome r.limit (λ l. (1 ≤ l.seconds) × (l.seconds ≤ 2_147_483_647))) rows row
          (λ i lt l e. let told = limit_told t formed related i lt l e in (told.0, told.1));
      limit_kinds = All-list_below (λ r. ForSome r.limit (λ l. l.kind ≤ 3)) rows row
          (λ i lt l e. (limit_told t formed related i lt l e).2);
    }

-- of two fields of which not one alone is filled, both have a value or neither
both_told : {X : Type 0} (a b : Bool) (x y : X) → (a && not b) || (b && not a) ≡ false → IsSome (when a x) ↔ IsSome (when b y)
both_told true true x y e = (λ some. refl, λ some. refl)
both_told true false x y e = absurd (cc)
both_told false true x y e = absurd (cc)
both_told false false x y e = (λ some. some, λ some. some)

-- fare_leg_join_rules.txt
pub join_rules_sound : (t : FeedTables) → AreFormed t → AreRelated t → AreSoundJoinRules (rows_of_tables t)
unfolding rows_of_tables join_row is_one_stop_named
join_rules_sound t formed related =
    let rows = row_count (table_in t file.FareLegJoinRules) in
    let row = join_row t in
    record {
      few = few_rows row (formed file.FareLegJoinRules);
      from_networks = All-list_below (λ j. j.from_network.0 < length (network_names t)) rows row
          (λ i lt. (join_from_network_named t formed related i lt).within);
      to_networks = All-list_below (λ j. j.to_network.0 < length (network_names t)) rows row
          (λ i lt. (join_to_network_named t formed related i lt).within);
      from_stops = All-list_below (λ j. ForSome j.from_stop (λ s. s.0 < length (rows_of_tables t).stops)) rows row
          (λ i lt. filled_all _ _ (λ s. s.0 < length (rows_of_tables t).stops)
          (λ filled. rw length-list_below (join_from_stop_known t related i lt filled).within));
      to_stops = All-list_below (λ j. ForSome j.to_stop (λ s. s.0 < length (rows_of_tables t).stops)) rows row
          (λ i lt. filled_all _ _ (λ s. s.0 < length (rows_of_tables t).stops)
          (λ filled. rw length-list_below (join_to_stop_known t related i lt filled).within));
      both_stops = All-list_below (λ j. IsSome j.from_stop ↔ IsSome j.to_stop) rows row
          (λ i lt. both_told _ _ _ _ (related file.FareLegJoinRules i 4 _ lt refl));
    }
