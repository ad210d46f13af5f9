-- The calls that are made of a trip's rows one by one are those that the pass over the rows gives.
use Rattle.std.proofs.Common.{◌≡◌, refl, sym, ◌∙◌, ap, ℕ, zero, suc, ◌<◌, ◌≤◌, List, [], ◌∷◌, ◌++◌, length, get_or, arith, true, false}
use Rattle.std.specs.Prelude.{Some, slice_get, unwrap_or}
use Rattle.std.proofs.lemmas.Option.{get_or_from_slice_get, slice_get-get_or, slice_get_within}
use Rattle.std.proofs.lemmas.List.{get_or_default}
use Rattle.feed_rows.specs.declared.journeys.Call.{Call}
use Rattle.feed_rows.specs.declared.rows.StopTimeRow.{StopTimeRow}
use Rattle.feed_rows.specs.Calls.{first_time, is_timed, last_time}
use Rattle.feed_rows.specs.CallPass.{call_in, gap_at, pass, pass_below, time_in}
use Rattle.feed_laws.proofs.CallLaws.{call_in_timed, call_in_untimed}
use Rattle.plain_laws.specs.Plain.{list_below}
use Rattle.plain_laws.proofs.Laws.{length-list_below, slice_get-list_below}
use Rattle.trip_order.specs.Order.{no_time}
use Rattle.feed_trips.specs.Filled.{AreFilled, call_of}
use Rattle.feed_trips.proofs.GapLaws.{row_timed}

-- the call of the row at a position
abbrev row_call : List StopTimeRow → ℕ → Call
row_call rows m = call_in (gap_at rows m) m (get_or rows m no_time)

-- the pass gives the calls of the rows one by one
each_below : (rows : List StopTimeRow) (m : ℕ) → m ≤ length rows → pass_below rows m ≡ list_below m (row_call rows)
each_below rows zero le = refl
each_below rows (suc m) le =
    let before = each_below rows m (omega (arith, le)) in
    let row = slice_get-get_or rows m no_time (omega (arith, le)) in
    rw row (ap (λ cs. cs ++ row_call rows m ∷ []) before)

pub length-pass : (rows : List StopTimeRow) → length (pass rows) ≡ length rows
length-pass rows =
    ap length (each_below rows (length rows) (omega arith)) ∙ length-list_below (length rows) (row_call rows)

pub slice_get-pass : (rows : List StopTimeRow) (m : ℕ) → m < length rows →
    slice_get (pass rows) m ≡ Some (call_in (gap_at rows m) m (get_or rows m no_time))
slice_get-pass rows m lt =
    ap (λ cs. slice_get cs m) (each_below rows (length rows) (omega arith))
    ∙ slice_get-list_below (length rows) (row_call rows) m lt

module _ (rows : List StopTimeRow) (times : List ℕ) (made : List Call) (position : ℕ) (row : StopTimeRow)
    (are : pass rows ≡ made) (lt : position < length rows) (is : row ≡ get_or rows position row) where
  -- the call at a position, by the row there
  made_there : slice_get made position ≡ Some (call_in (gap_at rows position) position row)
  made_there =
      let same : get_or rows position no_time ≡ row = sym (is ∙ get_or_default rows position row no_time lt) in
      ap (λ cs. slice_get cs position) (sym are) ∙ slice_get-pass rows position lt
      ∙ ap (λ r. Some (call_in (gap_at rows position) position r)) same

  -- it has the times of a row that has them
  pub timed_call : (call : Call) → is_timed row ≡ true →
      call ≡ call_of row (unwrap_or (first_time row) 0) (unwrap_or (last_time row) 0) → slice_get made position ≡ Some call
  timed_call call timed at =
      made_there ∙ ap Some (call_in_timed (gap_at rows position) position row timed ∙ sym at)

  -- otherwise the time that is kept beside it
  kept_time : AreFilled rows times → is_timed row ≡ false →
      slice_get times position ≡ Some (time_in (gap_at rows position) position)
  kept_time filled untimed = filled position lt (row_timed rows position row lt is ∙ untimed)

  pub has_time : AreFilled rows times → is_timed row ≡ false → position < length times
  has_time filled untimed = slice_get_within times position _ (kept_time filled untimed)

  pub filled_call : (call : Call) (d : ℕ) → AreFilled rows times → is_timed row ≡ false →
      call ≡ call_of row (get_or times position d) (get_or times position d) → slice_get made position ≡ Some call
  filled_call call d filled untimed at =
      let same = get_or_from_slice_get times position _ d (kept_time filled untimed) in
      made_there
      ∙ ap Some
      (call_in_untimed (gap_at rows position) position row untimed ∙ ap (λ t. call_of row t t) (sym same) ∙ sym at)

-- a position of the calls is one of the rows
pub row_within : (rows : List StopTimeRow) (made : List Call) (position : ℕ) → pass rows ≡ made →
    position < length made → position < length rows
row_within rows made position are lt = let long = length-pass rows in let same = ap length are in omega (arith, lt, long, same)
