-- Rider categories by their places in the file.
use Rattle.std.proofs.Common.{◌≡◌, refl, sym, ◌∙◌, ap, subst, ℕ, zero, suc, ◌+◌, ◌<◌, ◌≤◌, arith}
use Rattle.std.proofs.Common.{Bool, true, false, List, [], length, get_or, take}
use Rattle.std.specs.Prelude.{Some, None, option_map, slice_get, count_by, bytes_eq, if◌then◌else◌}
use Rattle.std.proofs.lemmas.List.{take_all}
use Rattle.std.proofs.lemmas.List.Sums.{sum_by_more}
use Rattle.std.proofs.lemmas.Option.{slice_get-get_or}
use Rattle.transit_base.specs.declared.numbers.RiderId.{RiderId}
use Rattle.feed_rows.specs.declared.rows.RiderRow.{RiderRow}
use Rattle.feed_rows.specs.FeedRows.{FeedRows}
use Rattle.feed_rows.specs.RowsById.{has_rider_id, is_default_rider}
use Rattle.plain_laws.specs.Plain.{find_below, count_below}
use Rattle.plain_laws.proofs.Laws.{find_below_found}

module _ (feed : FeedRows) (rows : List RiderRow) (same : rows ≡ feed.riders) where
  -- the row at a place of the list
  row_at : (i : ℕ) (d : RiderRow) → i < length rows → slice_get feed.riders i ≡ Some (get_or rows i d)
  row_at i d lt = subst (λ rs. slice_get rs i ≡ Some (get_or rows i d)) same (slice_get-get_or rows i d lt)

  -- the rider category at a place has an id where its row has it
  pub has_id : (id : List ℕ) (i : ℕ) (d : RiderRow) (b : Bool) → i < length rows
      → bytes_eq (get_or rows i d).id id ≡ b → has_rider_id feed id i ≡ b
  unfolding has_rider_id
  has_id id i d b lt e = rw (row_at i d lt) e

  -- and is marked as default where its row is
  pub is_marked : (i : ℕ) (d : RiderRow) (b : Bool) → i < length rows → (get_or rows i d).default ≡ b
      → is_default_rider feed i ≡ b
  unfolding is_default_rider
  is_marked i d b lt e = rw (row_at i d lt) e

  -- the first that passes
  pub first_rider : (test : ℕ → Bool) (i : ℕ) → i < length rows → find_below i test ≡ None → test i ≡ true
      → Some (let rider : RiderId = record { 0 = i } in rider)
      ≡ option_map (λ k. record { 0 = k }) (find_below (length feed.riders) test)
  first_rider test i lt before here =
      let within : i < length feed.riders = subst (λ rs. i < length rs) same lt in
      ap (option_map (λ k. record { 0 = k })) (sym (find_below_found test (length feed.riders) i within before here))

-- a row like no other, for places past the end
no_row : RiderRow
no_row = record { id = []; default = false }

-- how many of the first so many rider categories are marked as default
count_taken : (feed : FeedRows) (k : ℕ) → k ≤ length feed.riders
    → count_by (λ (row : RiderRow). row.default) (take k feed.riders) ≡ count_below k (is_default_rider feed)
unfolding is_default_rider
count_taken feed zero le = refl
count_taken feed (suc k) le =
    let next : suc k ≡ k + 1 = omega arith in
    let lt : k < length feed.riders = omega arith in
    ap (λ n. count_by (λ (row : RiderRow). row.default) (take n feed.riders)) next
    ∙ sum_by_more (λ (row : RiderRow). if row.default then 1 else 0) feed.riders k no_row lt
    ∙ rw (count_taken feed k (omega arith))
    (ap (λ b. count_below k (is_default_rider feed) + (if b then 1 else 0)) (sym (here lt)))
  where
    here : k < length feed.riders → is_default_rider feed k ≡ (get_or feed.riders k no_row).default
    here lt = rw (slice_get-get_or feed.riders k no_row lt) refl

-- how many are
pub marked_count : (feed : FeedRows) (rows : List RiderRow) → rows ≡ feed.riders
    → count_by (λ (row : RiderRow). row.default) rows ≡ count_below (length feed.riders) (is_default_rider feed)
marked_count feed rows same =
    let n = length feed.riders in
    ap (count_by (λ (row : RiderRow). row.default)) (same ∙ sym (take_all n feed.riders (omega arith)))
    ∙ count_taken feed n (omega arith)
