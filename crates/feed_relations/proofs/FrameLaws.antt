-- Timeframes in their order: where those before one don't overlap, some of them overlaps it exactly where the last does that begins before it ends.
use Rattle.std.proofs.Common.{inl, inr, Bor, ◌≡◌, refl, sym, ◌∙◌, ap, ℕ, ◌<◌, ◌≤◌, ◌⊎◌, ⊎_elim, Bool, true, false, List, Option, Some, None, arith, nat_lt}
use Rattle.std.specs.Prelude.{◌==◌, ◌&&◌, ◌||◌, not}
use Rattle.std.specs.Cmp.{IsTotalOrder}
use Rattle.std.specs.declared.cmp.Ordering.{Ordering}
use Rattle.std.specs.declared.cmp.Ordering.TheVariants.{Less}
use Rattle.std.specs.Ordering.{nat_cmp, ordering_then, eq_by_cmp, is_lt, is_eq}
use Rattle.std.specs.BTreeSet.{BTreeSet, contains, IsKeyRangeOf}
use Rattle.std.specs.Map.Iter.{TakesLast, deref}
use Rattle.std.specs.Option.{MatchOption}
use Rattle.std.specs.declared.ops.Bound.TheVariants.{Excluded, Unbounded}
use Rattle.std.proofs.lemmas.Grind.{common_steps}
use Rattle.std.proofs.lemmas.Cmp.{then_total, on_total, nat_cmp_total, tied_itself}
use Rattle.std.proofs.lemmas.Bool.{false_from_ne_true}
use Rattle.std.proofs.lemmas.Bool.Decides.{nat_tests}
use Rattle.feed_files.specs.declared.names.ColumnName.TheVariants.{ServiceId, TimeframeGroupId, StartTime, EndTime}
use Rattle.plain_laws.specs.Plain.{any_below, find_below, when}
use Rattle.plain_laws.proofs.Laws.{same_test, eqb_turn, none_any, none_below, none_when, any_below_tells, any_below_hit, any_below-same}
use Rattle.feed_faults.specs.Records.{FileTable, row_count, field}
use Rattle.feed_faults.specs.FieldValues.{frame_start, frame_end}
use Rattle.feed_faults.specs.RowKeys.{is_repeated}
use Rattle.feed_faults.specs.FareRelations.{is_one_filled, do_frames_overlap, is_bad_frame}
use Rattle.feed_relations.specs.declared.frames.Frame.{Frame}
use Rattle.feed_relations.proofs.KeyLaws.{own_same}
use Rattle.feed_relations.specs.Frames.{AreSeen, frame_of}

-- by group, service, start and end
abbrev pub frame_order : Frame → Frame → Ordering
frame_order a b =
    ordering_then (nat_cmp a.group b.group)
    (ordering_then (nat_cmp a.service b.service) (ordering_then (nat_cmp a.start b.start) (nat_cmp a.end b.end)))

pub frame_total : IsTotalOrder frame_order
frame_total =
    then_total (on_total (λ (f : Frame). f.group) nat_cmp_total)
    (then_total (on_total (λ (f : Frame). f.service) nat_cmp_total)
    (then_total (on_total (λ (f : Frame). f.start) nat_cmp_total) (on_total (λ (f : Frame). f.end) nat_cmp_total)))

-- two timeframes are of one group and one service, and their times overlap
abbrev pub do_overlap : Frame → Frame → Bool
do_overlap a b = (a.group == b.group) && (a.service == b.service) && nat_lt a.start b.end && nat_lt b.start a.end

-- the first that doesn't begin before a timeframe ends
abbrev pub past : Frame → Frame
past frame = record { group = frame.group; service = frame.service; start = frame.end; end = 0 }

-- what is asked of the last timeframe that begins before another ends
abbrev pub reaches : Frame → Frame → Bool
reaches frame last = (last.group == frame.group) && ((last.service == frame.service) && nat_lt frame.start last.end)

-- a timeframe begins before it ends
abbrev IsOpen : Frame → Type 0
IsOpen frame = frame.start < frame.end

-- b doesn't come before a: by group, then by service, then by start
abbrev IsNotBefore : Frame → Frame → Type 0
IsNotBefore a b = (a.group < b.group) ⊎ ((a.group ≡ b.group) × ((a.service < b.service) ⊎ ((a.service ≡ b.service) × (a.start ≤ b.start))))

-- by group, then by service, a timeframe begins before another ends
abbrev BeginsBefore : Frame → Frame → Type 0
BeginsBefore a b = (a.group < b.group) ⊎ ((a.group ≡ b.group) × ((a.service < b.service) ⊎ ((a.service ≡ b.service) × (a.start < b.end))))

not_before : (a b : Frame) → is_lt (frame_order b a) ≡ false → IsNotBefore a b
not_before a b e = grind (arith, common_steps, nat_tests, e)

begins_before : (a b : Frame) → frame_order a (past b) ≡ Less → BeginsBefore a b
begins_before a b e = grind (arith, common_steps, nat_tests, e)

in_past : (a b : Frame) → do_overlap b a ≡ true → frame_order a (past b) ≡ Less
in_past a b e = grind (arith, common_steps, nat_tests, e)

same_frame : (a b : Frame) → eq_by_cmp frame_order a b ≡ true → (a.group ≡ b.group) × (a.service ≡ b.service) × (a.start ≡ b.start) × (a.end ≡ b.end)
same_frame a b e = grind (arith, common_steps, nat_tests, e)

-- a timeframe overlaps one that begins before it ends, where it reaches it
overlaps_last : (f k q : Frame) → reaches f k ≡ true → BeginsBefore k f → eq_by_cmp frame_order k q ≡ true → do_overlap f q ≡ true
overlaps_last f k q is before same = grind (arith, common_steps, nat_tests, is, before, same_frame k q same)

reaches_itself : (f k q : Frame) → eq_by_cmp frame_order k q ≡ true → do_overlap f q ≡ true → reaches f k ≡ true
reaches_itself f k q same over = grind (arith, common_steps, nat_tests, over, same_frame k q same)

-- where one overlaps a timeframe, the last that begins before this ends does, as the two are apart
reaches_last : (f k q last : Frame) → IsNotBefore q k → BeginsBefore k f → eq_by_cmp frame_order k last ≡ true → IsOpen last → do_overlap last q ≡ false → do_overlap f q ≡ true → reaches f k ≡ true
reaches_last f k q last after before same opens apart over = grind (arith, common_steps, nat_tests, after, before, opens, apart, over, same_frame k last same)

swap_last : (a b c d : Bool) → a && b && c && d ≡ a && b && d && c
swap_last true true true true = refl
swap_last true true true false = refl
swap_last true true false true = refl
swap_last true true false false = refl
swap_last true false c d = refl
swap_last false b c d = refl

-- two overlap, whichever is named first
turn : (a b : Frame) → do_overlap a b ≡ do_overlap b a
turn a b = rw (eqb_turn a.group b.group, eqb_turn a.service b.service) (swap_last (b.group == a.group) (b.service == a.service) (nat_lt a.start b.end) (nat_lt b.start a.end))

module _ (table : FileTable) where
  -- they overlap where their rows do
  of_rows : (row : ℕ) → row < row_count table → any_below row (λ r. do_overlap (frame_of table row) (frame_of table r)) ≡ is_repeated (do_frames_overlap table) row
  unfolding do_frames_overlap
  of_rows row lt =
      any_below-same (λ r. do_overlap (frame_of table row) (frame_of table r)) (do_frames_overlap table row) row (λ r small.
      rw (own_same table TimeframeGroupId row r lt (omega arith), own_same table ServiceId row r lt (omega arith)) refl)

  -- the three ways in which a row is bad
  pub by_ways : (row : ℕ) (one late over : Bool) → one ≡ is_one_filled (field table row StartTime) (field table row EndTime) → late ≡ not (nat_lt (frame_start table row) (frame_end table row)) → over ≡ is_repeated (do_frames_overlap table) row → is_bad_frame table row ≡ (one || late || over)
  unfolding is_bad_frame
  by_ways row one late over is_one is_late is_over = rw (is_one, is_late, is_over) refl

  -- a row that isn't bad begins before it ends, and overlaps none before it
  record IsGood (row : ℕ) : Type 0 where
    opens : IsOpen (frame_of table row)
    apart : is_repeated (do_frames_overlap table) row ≡ false

  good : (row : ℕ) → is_bad_frame table row ≡ false → IsGood row
  unfolding is_bad_frame
  good row e = step (is_one_filled (field table row StartTime) (field table row EndTime)) (nat_lt (frame_start table row) (frame_end table row)) refl (is_repeated (do_frames_overlap table) row) refl e
    where
      step : (one less : Bool) → nat_lt (frame_start table row) (frame_end table row) ≡ less → (over : Bool) → is_repeated (do_frames_overlap table) row ≡ over → (one || not less || over) ≡ false → IsGood row
      step true less is over has wrong = absurd (cc)
      step false true is true has wrong = absurd (cc)
      step false true is false has right = record { opens = grind (arith, nat_tests, is); apart = has }
      step false false is over has wrong = absurd (cc)

module _ (table : FileTable) (row : ℕ) (within : row < row_count table) (none : find_below row (is_bad_frame table) ≡ None) (seen : BTreeSet Frame) (are : AreSeen frame_order (frame_of table) seen row) where
  abbrev frame : ℕ → Frame
  frame = frame_of table

  good_before : (r : ℕ) → r < row → IsGood table r
  good_before r lt = good table r (none_when (is_bad_frame table r) r (none_below (λ k. when (is_bad_frame table k) k) row r none lt))

  apart : (i j : ℕ) → i < j → j < row → do_overlap (frame j) (frame i) ≡ false
  apart i j lt below = none_any (λ k. do_overlap (frame j) (frame k)) j i (of_rows table j (omega arith) ∙ (good_before j below).apart) lt

  either : (i j : ℕ) → i < row → j < row → (i ≡ j) ⊎ (do_overlap (frame j) (frame i) ≡ false)
  either i j li lj = step (nat_lt i j) refl (nat_lt j i) refl
    where
      step : (less : Bool) → nat_lt i j ≡ less → (more : Bool) → nat_lt j i ≡ more → (i ≡ j) ⊎ (do_overlap (frame j) (frame i) ≡ false)
      step true e more o = inr (apart i j (grind (arith, nat_tests, e)) lj)
      step false e true o = inr (turn (frame j) (frame i) ∙ apart j i (grind (arith, nat_tests, o)) li)
      step false e false o = inl (grind (arith, nat_tests, e, o))

  held : (k : Frame) → contains frame_order seen k ≡ true → (r : ℕ) × (r < row) × (eq_by_cmp frame_order k (frame r) ≡ true)
  held k has = any_below_tells (λ r. eq_by_cmp frame_order k (frame r)) row (sym (are k) ∙ has)

  has : (r : ℕ) → r < row → contains frame_order seen (frame r) ≡ true
  has r lt = are (frame r) ∙ any_below_hit (λ k. eq_by_cmp frame_order (frame r) (frame k)) row r lt (ap is_eq (tied_itself frame_total (frame r)))

  -- the last that begins before the row's ends
  pub by_last : (k : Frame) → frame_order k (past (frame row)) ≡ Less → contains frame_order seen k ≡ true
      → ((q : Frame) → frame_order q (past (frame row)) ≡ Less → contains frame_order seen q ≡ true → is_lt (frame_order k q) ≡ false)
      → reaches (frame row) k ≡ is_repeated (do_frames_overlap table) row
  by_last k less in_seen last =
      same_test (reaches (frame row) k) (any_below row (λ r. do_overlap (frame row) (frame r))) to from ∙ of_rows table row within
    where
      own : (r : ℕ) × (r < row) × (eq_by_cmp frame_order k (frame r) ≡ true)
      own = held k in_seen

      to : reaches (frame row) k ≡ true → any_below row (λ r. do_overlap (frame row) (frame r)) ≡ true
      to is = any_below_hit (λ r. do_overlap (frame row) (frame r)) row own.0 own.1 (overlaps_last (frame row) k (frame own.0) is (begins_before k (frame row) less) own.2)

      from : any_below row (λ r. do_overlap (frame row) (frame r)) ≡ true → reaches (frame row) k ≡ true
      from some =
          let one = any_below_tells (λ r. do_overlap (frame row) (frame r)) row some in
          ⊎_elim (λ (same : one.0 ≡ own.0). reaches_itself (frame row) k (frame one.0) (rw same own.2) one.2)
          (λ (other : do_overlap (frame own.0) (frame one.0) ≡ false).
          reaches_last (frame row) k (frame one.0) (frame own.0) (not_before (frame one.0) k (last (frame one.0) (in_past (frame one.0) (frame row) one.2) (has one.0 one.1))) (begins_before k (frame row) less) own.2 (good_before own.0 own.1).opens other one.2)
          (either one.0 own.0 one.1 own.1)

  -- there is none
  pub by_none : ((q : Frame) → frame_order q (past (frame row)) ≡ Less → contains frame_order seen q ≡ false) → is_repeated (do_frames_overlap table) row ≡ false
  by_none empty =
      sym (of_rows table row within)
      ∙ false_from_ne_true (any_below row (λ r. do_overlap (frame row) (frame r))) (λ some.
      let one = any_below_tells (λ r. do_overlap (frame row) (frame r)) row some in
      absurd (let no : true ≡ false = sym (has one.0 one.1) ∙ empty (frame one.0) (in_past (frame one.0) (frame row) one.2) in cc))

  -- what is found of them
  pub by_range : (f : Frame) (found rest : List Frame) (last : Option (Bor Frame)) (over : Bool) → f ≡ frame_of table row
      → IsKeyRangeOf frame_order Unbounded (Excluded (past f)) seen found → TakesLast deref found last rest
      → MatchOption last (over ≡ false) (λ k. over ≡ reaches f k.now)
      → over ≡ is_repeated (do_frames_overlap table) row
  by_range f found rest None over of are_in takes is = is ∙ sym (by_none (λ q less. are_in.5 takes.0 q (tt, rw of less)))
  by_range f found rest (Some k) over of are_in takes is =
      let own = are_in.3 k.now rest takes in
      rw of at is ∙ by_last k.now (rw of at own.0.1) own.1 (λ q less in_seen. are_in.4 k.now rest takes q (tt, rw of less) in_seen)
