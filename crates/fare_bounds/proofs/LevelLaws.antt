-- What a leg and what follows it add, within bounds, and what lower amounts of a level keep.
use Rattle.std.proofs.Common.{◌≡◌, refl, sym, ◌∙◌, ap, subst, ℕ, ◌+◌, ◌*◌, ◌≤◌, ◌<◌, ◌⊎◌, inl, inr, Bool, true, false, List, length, map, get_or, replicate, vec_len, Option, Some, None, arith, w64, SFits, to_z, of_z}
use Rattle.std.specs.Prelude.{◌==◌, if◌then◌else◌, slice_get, ℤ, pos, negsuc, ◌+ℤ◌, ◌≤ℤ◌}
use Rattle.std.specs.Int.{int_min}
use Rattle.std.proofs.lemmas.Int.{ints, to_z-of_z}
use Rattle.std.specs.Option.{ForSome}
use Rattle.std.proofs.lemmas.Option.{slice_get-get_or}
use Rattle.std.proofs.lemmas.Bool.{cases_lt}
use Rattle.std.proofs.lemmas.Bool.Decides.{nat_tests}
use Rattle.std.proofs.Math.ListN.{get_or-map}
use Rattle.std.proofs.lemmas.List.{get_or_past, get_or-replicate}
use Rattle.transit_base.specs.declared.numbers.LegGroupId.{LegGroupId}
use Rattle.feed_rows.specs.declared.rows.TransferRuleRow.{TransferRuleRow}
use Rattle.feed_rows.specs.Codes.{includes_leg_after}
use Rattle.feed_rows.specs.FeedRows.{FeedRows}
use Rattle.feed_rows.specs.SoundFares.{AreSoundTransferRules}
use Rattle.plain_laws.proofs.Laws.{All-slice_get}
use Rattle.fare_bounds.specs.declared.least.LeastAmounts.{LeastAmounts}
use Rattle.fare_bounds.specs.declared.level.LegCosts.{LegCosts}
use Rattle.fare_bounds.specs.declared.level.Level.{Level}
use Rattle.fare_bounds.specs.Amounts.{never, amount_at, place_of, row_place, at_place, end_by, floor_of, IsAmount, AreAmounts}
use Rattle.fare_bounds.specs.Payable.{IsPaid, charge_of}
use Rattle.fare_bounds.specs.Levels.{with_at, without_at, end_at, rest_at, costs_by, AreCosts, AreLesserCosts, IsApart, AreCostsBelow, AreLegCosts, AreCostsTo, CanMatch, IsLevelBelow, added_by, counts, IsChangeAbove, IsTransferRuleAbove}
use Rattle.fare_bounds.proofs.FirstLaws.{AreFirst, first_more}
use Rattle.fare_bounds.proofs.AmountLaws.{min_first, min_second, min_low, le_trans, filled}

-- ---- amounts

-- the amount at a place is such as each of the list is
pub at_amount : (count : ℕ) (amounts : List ℤ) → AreAmounts count amounts → (place : ℕ) →
    IsAmount count (at_place amounts place)
at_amount count amounts are place = by (place == 0)
  where
    by : (b : Bool) → IsAmount count (if b then amount_at amounts 0 else int_min (amount_at amounts place)
        (amount_at amounts 1))
    by true = are 0
    by false =
        record {
          low = min_low _ _ _ (are place).low (are 1).low;
          high = le_trans _ _ _ (min_first _ _) (are place).high;
        }

-- an amount of some products is one of more
pub more_amount : (few many : ℕ) (x : ℤ) → few ≤ many → IsAmount few x → IsAmount many x
more_amount few many x le p = record { low = omega (arith, ints, p.low, le); high = p.high }

-- the same of what is read there, and passed as its bits
pub read_is : (read amounts : List ℤ) (place : ℕ) (amount : ℤ) → SFits w64 amount → amount ≡ at_place read place →
    read ≡ amounts → to_z w64 (of_z w64 amount) ≡ at_place amounts place
read_is read amounts place amount fits is same =
    to_z-of_z w64 amount fits ∙ is ∙ ap (λ (xs : List ℤ). at_place xs place) same

-- the same of what is read in a list of the same amounts
pub list_read_is : (read amounts : List ℤ) (place : ℕ) (amount : ℤ) → SFits w64 amount → amount ≡ amount_at read place →
    read ≡ amounts → to_z w64 (of_z w64 amount) ≡ amount_at amounts place
list_read_is read amounts place amount fits is same =
    to_z-of_z w64 amount fits ∙ is ∙ ap (λ (xs : List ℤ). amount_at xs place) same

pub list_amount : (count most : ℕ) (amounts : List ℤ) (place : ℕ) (passed : ℤ) → count ≤ most →
    AreAmounts count amounts →
    passed ≡ amount_at amounts place → IsAmount most passed
list_amount count most amounts place passed few are is =
    subst (λ (z : ℤ). IsAmount most z) (sym is) (more_amount count most _ few (are place))

pub read_amount : (count most : ℕ) (amounts : List ℤ) (place : ℕ) (passed : ℤ) → count ≤ most →
    AreAmounts count amounts →
    passed ≡ at_place amounts place → IsAmount most passed
read_amount count most amounts place passed few are is =
    subst (λ (z : ℤ). IsAmount most z) (sym is) (more_amount count most _ few (at_amount count amounts are place))

-- the lesser of two amounts is one
pub lesser_amount : (count : ℕ) (x y : ℤ) → IsAmount count x → IsAmount count y → IsAmount count (int_min x y)
lesser_amount count x y p q =
    record { low = min_low _ _ _ p.low q.low; high = le_trans _ _ _ (min_first x y) p.high }

-- a sum is no less than that of one product more
sum_low : (count : ℕ) (x y : ℤ) → IsAmount 1 x → IsAmount count y → floor_of (count + 1) ≤ℤ (x +ℤ y)
sum_low count x y p q = omega (arith, ints, p.low, q.low)

pub sum_fits : (count : ℕ) (x y : ℤ) → count ≤ 600 → IsAmount 1 x → IsAmount count y → SFits w64 (x +ℤ y)
sum_fits count x y few p q = fits (x +ℤ y) (low p.low q.low) (high p.high q.high)
  where
    low : floor_of 1 ≤ℤ x → floor_of count ≤ℤ y → floor_of 601 ≤ℤ (x +ℤ y)
    low a b = omega (arith, ints, a, b, few)

    high : x ≤ℤ never → y ≤ℤ never → (x +ℤ y) ≤ℤ pos 2_000_000_000_000_000
    high a b = omega (arith, ints, a, b)

    fits : (z : ℤ) → floor_of 601 ≤ℤ z → z ≤ℤ pos 2_000_000_000_000_000 → SFits w64 z
    fits (pos n) a b = record { sfits = omega (arith, ints, b) }
    fits (negsuc n) a b = record { sfits = omega (arith, ints, a) }

-- an amount is passed as its bits without loss
pub passed_is : (count : ℕ) (x : ℤ) → count ≤ 600 → IsAmount count x → to_z w64 (of_z w64 x) ≡ x
passed_is count x few p = to_z-of_z w64 x (fits x (low p.low) (high p.high))
  where
    low : floor_of count ≤ℤ x → floor_of 600 ≤ℤ x
    low a = omega (arith, ints, a, few)

    high : x ≤ℤ never → x ≤ℤ pos 2_000_000_000_000_000
    high a = omega (arith, ints, a)

    fits : (z : ℤ) → floor_of 600 ≤ℤ z → z ≤ℤ pos 2_000_000_000_000_000 → SFits w64 z
    fits (pos n) a b = record { sfits = omega (arith, ints, b) }
    fits (negsuc n) a b = record { sfits = omega (arith, ints, a) }

pub passed_amount : (count : ℕ) (x : ℤ) → count ≤ 600 → IsAmount count x → IsAmount count (to_z w64 (of_z w64 x))
passed_amount count x few p = subst (λ (z : ℤ). IsAmount count z) (sym (passed_is count x few p)) p

none_amount : (count : ℕ) → IsAmount count (pos 0)
none_amount count = record { low = omega (arith, ints); high = omega (arith, ints) }

pub never_amount : (count : ℕ) → IsAmount count never
never_amount count = record { low = omega (arith, ints); high = omega (arith, ints) }

-- the end of a journey adds an amount of no product
pub end_amounts : (lasts : List Bool) (ends : List ℤ) → ends ≡ map end_by lasts → AreAmounts 0 ends
end_amounts lasts ends is place =
    subst (λ (xs : List ℤ). IsAmount 0 (amount_at xs place)) (sym is)
    (subst (λ (z : ℤ). IsAmount 0 z) (sym (get_or-map end_by lasts place false)) (by (get_or lasts place false)))
  where
    by : (last : Bool) → IsAmount 0 (end_by last)
    by true = none_amount 0
    by false = never_amount 0

-- a list that one amount fills
pub filled_amounts : (count places : ℕ) (passed amount : ℤ) (xs : List ℤ) → xs ≡ replicate places passed →
    passed ≡ amount →
    IsAmount count amount → AreAmounts count xs
filled_amounts count places passed amount xs is same one place =
    filled places amount xs (is ∙ ap (λ (z : ℤ). replicate places z) same) place (IsAmount count) one
    (never_amount count)

-- no place of it has more
pub filled_below : (n : ℕ) (passed amount : ℤ) (xs : List ℤ) → xs ≡ replicate n passed → passed ≡ amount →
    (place : ℕ) → place < n → amount_at xs place ≤ℤ amount
filled_below n passed amount xs is same place lt =
    subst (λ (z : ℤ). z ≤ℤ amount)
    (sym (ap (λ l. get_or l place never) is ∙ get_or-replicate n place passed never lt ∙ same))
    (omega (arith, ints))

-- costs of some products are those of more
pub more_costs : (few many : ℕ) (costs : LegCosts) → few ≤ many → AreCosts few costs → AreCosts many costs
more_costs few many costs le are =
    record {
      free = more_amount few many costs.free le are.free;
      charged = more_amount few many costs.charged le are.charged;
      apart = more_amount few many costs.apart le are.apart;
    }

-- ---- legs

-- what a leg and what follows it add is an amount of one product more
pub costs_amounts : (count : ℕ) (least with without end : ℤ) → IsAmount 1 least → IsAmount count with →
    IsAmount count without → IsAmount count end → AreCosts (count + 1) (costs_by least with without end)
costs_amounts count least with without end l p q r =
    let none = never_amount (count + 1) in
    let rest = lesser_amount count (int_min with without) end (lesser_amount count with without p q) r in
    let next = lesser_amount count with end p r in
    let other = more_amount count (count + 1) without (omega arith) q in
    record {
      free = more_amount count (count + 1) (int_min (int_min with without) end) (omega arith) rest;
      charged =
          record {
            low = min_low _ never _ (sum_low count least (int_min (int_min with without) end) l rest) none.low;
            high = min_second (least +ℤ int_min (int_min with without) end) never;
          };
      apart =
          record {
            low = min_low _ without _ (sum_low count least (int_min with end) l next) other.low;
            high = le_trans _ without never (min_second (least +ℤ int_min with end) without) other.high;
          };
    }

pub costs_below : (amounts : LeastAmounts) (level : Level) (place : ℕ) →
    AreLegCosts amounts level place
    (costs_by (amount_at amounts.legs.items place) (with_at level place) (without_at level place)
    (end_at amounts place))
costs_below amounts level place amount paid =
    record {
      free = same _;
      charged = le_trans _ _ _ (min_first (least +ℤ rest_at amounts level place) never)
          (more least amount (rest_at amounts level place) paid.above);
      apart =
          record {
            kept = le_trans _ _ _ (min_first (least +ℤ next) (without_at level place))
                (more least amount next paid.above);
            taken_back = min_second (least +ℤ next) (without_at level place);
          };
    }
  where
    least : ℤ
    least = amount_at amounts.legs.items place

    next : ℤ
    next = int_min (with_at level place) (end_at amounts place)

    same : (x : ℤ) → x ≤ℤ x
    same x = omega (arith, ints)

    more : (x y z : ℤ) → x ≤ℤ y → (x +ℤ z) ≤ℤ (y +ℤ z)
    more x y z le = omega (arith, ints, le)

-- the same of costs by amounts that are those of the level
pub leg_costs : (amounts : LeastAmounts) (level : Level) (place : ℕ) (least with without end : ℤ)
    (costs : LegCosts) →
    least ≡ amount_at amounts.legs.items place → with ≡ with_at level place → without ≡ without_at level place →
    end ≡ end_at amounts place → costs ≡ costs_by least with without end →
    AreLegCosts amounts level place costs × AreCosts (2 * level.rides + 1) costs
leg_costs amounts level place least with without end costs is_least is_with is_without is_end is =
    subst (λ (c : LegCosts). AreLegCosts amounts level place c × AreCosts (2 * level.rides + 1) c)
    (sym (is ∙ ap (λ (z : ℤ). costs_by z with without end) is_least
    ∙ ap (λ (z : ℤ). costs_by own z without end) is_with
    ∙ ap (λ (z : ℤ). costs_by own (with_at level place) z end) is_without
    ∙ ap (costs_by own (with_at level place) (without_at level place)) is_end)) (
      costs_below amounts level place,
      costs_amounts (2 * level.rides) own (with_at level place) (without_at level place) (end_at amounts place)
          (amounts.of_legs place)
          (at_amount (2 * level.rides) level.with_held.items level.of_with place)
          (at_amount (2 * level.rides) level.without_held.items level.of_without place)
          (more_amount 0 (2 * level.rides) (end_at amounts place) (omega arith) (amounts.of_ends place)),
    )
  where
    own : ℤ
    own = amount_at amounts.legs.items place

-- no leg costs less than what never comes
pub never_paid : {X : Type 0} (least amount : ℤ) → IsPaid least amount → never ≤ℤ least → X
never_paid least amount paid high = absurd (let a = paid.above in let b = paid.below in omega (arith, ints, high, a, b))

-- lesser costs are at most the same
pub lesser_below : (amounts : LeastAmounts) (level : Level) (place : ℕ) (costs others : LegCosts) →
    AreLesserCosts costs others → AreLegCosts amounts level place others → AreLegCosts amounts level place costs
lesser_below amounts level place costs others lesser are amount paid =
    let b = are amount paid in
    record {
      free = le_trans _ _ _ lesser.free b.free;
      charged = le_trans _ _ _ lesser.charged b.charged;
      apart =
          record {
            kept = le_trans _ _ _ lesser.apart b.apart.kept;
            taken_back = le_trans _ _ _ lesser.apart b.apart.taken_back;
          };
    }

-- the same where the field of a transfer rule names the group
pub costs_to : (amounts : LeastAmounts) (level : Level) (to : Option LegGroupId) (own group : LegGroupId) (place : ℕ)
    (costs : LegCosts) → to ≡ Some own → CanMatch to group → place ≡ place_of to →
    AreLegCosts amounts level place costs → AreLegCosts amounts level (group.0 + 2) costs
costs_to amounts level None own group place costs is matches at are = absurd (cc)
costs_to amounts level (Some named) own group place costs is matches at are =
    let same : place ≡ group.0 + 2 = at ∙ ap (λ (n : ℕ). n + 2) matches in
    subst (λ (p : ℕ). AreLegCosts amounts level p costs) same are

-- costs of the first places, with one more
pub costs_more : (amounts : LeastAmounts) (level : Level) (n : ℕ) (before here new : LegCosts) →
    ((place : ℕ) → place < n → AreLegCosts amounts level place before) → AreLegCosts amounts level n here →
    AreLesserCosts new before → AreLesserCosts new here →
    (place : ℕ) → place < n + 1 → AreLegCosts amounts level place new
costs_more amounts level n before here new all are first second place lt = by (cases_lt place n)
  where
    by : (place < n) ⊎ (n ≤ place) → AreLegCosts amounts level place new
    by (inl less) = lesser_below amounts level place new before first (all place less)
    by (inr ge) =
        let same : place ≡ n = omega (arith, lt, ge) in
        subst (λ (p : ℕ). AreLegCosts amounts level p new) (sym same) (lesser_below amounts level n new here second are)

-- no leg of a place past the last one can be paid
pub costs_all : (amounts : LeastAmounts) (level : Level) (n : ℕ) (costs : LegCosts) → length amounts.legs.items ≤ n →
    ((place : ℕ) → place < n → AreLegCosts amounts level place costs) →
    (place : ℕ) → AreLegCosts amounts level place costs
costs_all amounts level n costs le all place amount paid = by (cases_lt place n)
  where
    by : (place < n) ⊎ (n ≤ place) → AreCostsBelow amounts level place amount costs
    by (inl less) = all place less amount paid
    by (inr ge) =
        let past : amount_at amounts.legs.items place ≡ never =
        get_or_past amounts.legs.items place never (omega (arith, ge, le)) in
        never_paid (amount_at amounts.legs.items place) amount paid
        (subst (λ (z : ℤ). never ≤ℤ z) (sym past) (same never))
      where
        same : (x : ℤ) → x ≤ℤ x
        same x = omega (arith, ints)

-- ---- changes

-- what a change adds is no less, where its charge is no less, nor what follows
added_le : (kind : ℕ) (charge charge' free free' charged charged' : ℤ) → charge ≤ℤ charge' → free ≤ℤ free' →
    charged ≤ℤ charged' →
    added_by kind charge free charged ≤ℤ added_by kind charge' free' charged'
added_le kind charge charge' free free' charged charged' p q r = by (includes_leg_after kind)
  where
    by : (b : Bool) → (charge +ℤ (if b then free else charged)) ≤ℤ (charge' +ℤ (if b then free' else charged'))
    by true = omega (arith, ints, p, q)
    by false = omega (arith, ints, p, r)

pub added_low : (kind rides count : ℕ) (charge added : ℤ) (costs : LegCosts) → count ≡ rides + 1 → IsAmount 1 charge →
    AreCosts (2 * rides + 1) costs → added ≡ added_by kind charge costs.free costs.charged →
    floor_of (2 * count) ≤ℤ added
added_low kind rides count charge added costs more p are is = subst (λ (z : ℤ). floor_of (2 * count) ≤ℤ z) (sym is)
    (by (includes_leg_after kind))
  where
    sum : (z : ℤ) → floor_of 1 ≤ℤ charge → floor_of (2 * rides + 1) ≤ℤ z → floor_of (2 * count) ≤ℤ (charge +ℤ z)
    sum z a b = omega (arith, ints, a, b, more)

    by : (b : Bool) → floor_of (2 * count) ≤ℤ (charge +ℤ (if b then costs.free else costs.charged))
    by true = sum costs.free p.low are.free.low
    by false = sum costs.charged p.low are.charged.low

-- the row is for places of the level
pub row_place_low : (field : Option LegGroupId) (groups places : ℕ) → ForSome field (λ g. g.0 < groups) →
    places ≡ groups + 2 →
    row_place field < places
row_place_low None groups places within long = omega (arith, long)
row_place_low (Some group) groups places within long = let lt = within group refl in omega (arith, long, lt)

-- what a row adds to a leg that it leads to
pub rule_above : (late : Bool) (amounts : LeastAmounts) (before level : Level) (row : TransferRuleRow)
    (charge added : ℤ) (costs : LegCosts) →
    IsChangeAbove level row added → added ≡ added_by row.kind charge costs.free costs.charged →
    charge ≡ charge_of amounts row.product →
    AreCostsTo amounts before row.to costs → IsTransferRuleAbove late amounts before level row
rule_above late amounts before level row charge added costs above is is_charge are group amount paid_charge counted
    matches paid le =
    let below = are group matches amount paid in
    let rest = rest_at amounts before (place_of (Some group)) in
    let most = added_by row.kind paid_charge rest (amount +ℤ rest) in
    let low : added ≤ℤ most =
    subst (λ (z : ℤ). z ≤ℤ most) (sym is)
    (added_le row.kind charge paid_charge costs.free rest costs.charged (amount +ℤ rest)
    (subst (λ (z : ℤ). z ≤ℤ paid_charge) (sym is_charge) le) below.free below.charged) in
    record {
      taken_back = λ alone. le_trans _ added most (above.taken_back alone) low;
      paid = λ other. le_trans _ added most (above.paid other) low;
    }

-- it stays so where amounts become less
rule_lower : (late : Bool) (amounts : LeastAmounts) (before level lower : Level) (row : TransferRuleRow) →
    IsLevelBelow lower level →
    IsTransferRuleAbove late amounts before level row → IsTransferRuleAbove late amounts before lower row
rule_lower late amounts before level lower row below above group amount charge counted matches paid le =
    let is = above group amount charge counted matches paid le in
    record {
      taken_back = λ alone. le_trans _ _ _ (below.without_held (row_place row.from)) (is.taken_back alone);
      paid = λ other. le_trans _ _ _ (below.with_held (row_place row.from)) (is.paid other);
    }

-- what stands at each place is at most what stands at that of all groups
pub with_below : (level : Level) (places : ℕ) (least : ℤ) (group : Option LegGroupId) → 2 ≤ places →
    ((place : ℕ) → place < places → amount_at level.with_held.items place ≤ℤ least) →
    with_at level (place_of group) ≤ℤ least
with_below level places least None long all = all 0 (omega (arith, long))
with_below level places least (Some group) long all =
    let apart : ((group.0 + 2) == 0) ≡ false = grind (arith, nat_tests) in
    rw apart (le_trans _ _ _ (min_second _ _) (all 1 (omega (arith, long))))

pub apart_below : (amounts : LeastAmounts) (level : Level) (place : ℕ) (amount apart lower : ℤ) → lower ≤ℤ apart →
    IsApart amounts level place amount apart → IsApart amounts level place amount lower
apart_below amounts level place amount apart lower le is =
    record { kept = le_trans _ _ _ le is.kept; taken_back = le_trans _ _ _ le is.taken_back }

-- the place of a row of a sound feed is one of so many
pub place_low : (feed inside : FeedRows) (rows : List TransferRuleRow) (i : ℕ) (d : TransferRuleRow)
    (legs places : ℕ) → inside ≡ feed →
    rows ≡ inside.transfer_rules → AreSoundTransferRules inside → i < length rows →
    legs ≡ length feed.group_names + 2 → places ≡ legs →
    row_place (get_or rows i d).from < places
place_low feed inside rows i d legs places view same sound lt long one =
    row_place_low (get_or rows i d).from (length feed.group_names) places
    (subst (λ (f : FeedRows). ForSome (get_or rows i d).from (λ g. g.0 < length f.group_names)) view
    (All-slice_get (λ r. ForSome r.from (λ g. g.0 < length inside.group_names)) inside.transfer_rules i
    (get_or rows i d)
    (ap (λ rs. slice_get rs i) (sym same) ∙ slice_get-get_or rows i d lt) sound.froms))
    (one ∙ long)

-- what a change adds, where amounts are passed as their bits
pub added_is : (kind : ℕ) (passed charge sum added : ℤ) (costs : LegCosts) → passed ≡ charge → added ≡ sum →
    sum ≡ added_by kind passed costs.free costs.charged → added ≡ added_by kind charge costs.free costs.charged
added_is kind passed charge sum added costs same is made =
    is ∙ made ∙ ap (λ (z : ℤ). added_by kind z costs.free costs.charged) same

-- what a list of rows gives past its end
abbrev pub no_row : TransferRuleRow
no_row = record { from = None; to = None; count = None; limit = None; kind = 0; product = None }

-- a level as it is made: all places have at most what a leg apart adds, and each of the first rows adds no less than
-- stands there
pub record IsMade (late : Bool) (amounts : LeastAmounts) (before : Level) (apart : ℤ) (rows : List TransferRuleRow)
    (level : Level) (n : ℕ) : Type 0 where
  pub rides : level.rides ≡ before.rides + 1
  pub with_places : vec_len level.with_held ≡ vec_len amounts.legs
  pub without_places : vec_len level.without_held ≡ vec_len amounts.legs
  pub legs_apart : (place : ℕ) → place < vec_len amounts.legs → amount_at level.with_held.items place ≤ℤ apart
  pub each_row : AreFirst (IsTransferRuleAbove late amounts before level) rows n

-- one row more
pub made_more : (late : Bool) (amounts : LeastAmounts) (before : Level) (apart : ℤ) (rows : List TransferRuleRow)
    (level lower : Level) (n : ℕ) → IsMade late amounts before apart rows level n → IsLevelBelow lower level →
    IsTransferRuleAbove late amounts before lower (get_or rows n no_row) →
    IsMade late amounts before apart rows lower (n + 1)
made_more late amounts before apart rows level lower n made below above =
    record {
      rides = below.rides ∙ made.rides;
      with_places = below.with_places ∙ made.with_places;
      without_places = below.without_places ∙ made.without_places;
      legs_apart = λ place lt. le_trans _ _ _ (below.with_held place) (made.legs_apart place lt);
      each_row =
          first_more (IsTransferRuleAbove late amounts before level) (IsTransferRuleAbove late amounts before lower)
          rows n no_row made.each_row (λ row is. rule_lower late amounts before level lower row below is) above;
    }

-- one that doesn't count
pub made_without : (late : Bool) (amounts : LeastAmounts) (before : Level) (apart : ℤ) (rows : List TransferRuleRow)
    (level : Level) (n : ℕ) → IsMade late amounts before apart rows level n →
    counts late (get_or rows n no_row) ≡ false → IsMade late amounts before apart rows level (n + 1)
made_without late amounts before apart rows level n made none =
    record {
      rides = made.rides;
      with_places = made.with_places;
      without_places = made.without_places;
      legs_apart = made.legs_apart;
      each_row =
          first_more (IsTransferRuleAbove late amounts before level) (IsTransferRuleAbove late amounts before level)
          rows n no_row made.each_row (λ row is. is)
          (λ group amount charge counted. absurd (let no : false ≡ true = sym none ∙ counted in cc));
    }
