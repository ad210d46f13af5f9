-- Timeframes, and sets that are filled row by row.
use Rattle.std.specs.Prelude.{◌≡◌, ℕ}
use Rattle.std.specs.BTreeSet.{BTreeSet, contains}
use Rattle.std.specs.Ordering.{eq_by_cmp}
use Rattle.std.specs.declared.cmp.Ordering.{Ordering}
use Rattle.feed_files.specs.declared.names.ColumnName.TheVariants.{ServiceId, TimeframeGroupId}
use Rattle.plain_laws.specs.Plain.{any_below}
use Rattle.feed_faults.specs.Records.{FileTable, field}
use Rattle.feed_faults.specs.FieldValues.{frame_start, frame_end}
use Rattle.feed_faults.specs.AcceptedFeed.{row_number}
use Rattle.feed_relations.specs.declared.frames.Frame.{Frame}

-- the timeframe of a row
abbrev pub frame_of : FileTable → ℕ → Frame
frame_of table row =
    record {
      group = row_number table TimeframeGroupId (field table row TimeframeGroupId);
      service = row_number table ServiceId (field table row ServiceId);
      start = frame_start table row;
      end = frame_end table row;
    }

-- the set has the items of the rows before this one, and nothing else
abbrev pub AreSeen : {K : Type 0} → (K → K → Ordering) → (ℕ → K) → BTreeSet K → ℕ → Type 0
AreSeen {K = K} order item seen row = (k : K) → contains order seen k ≡ any_below row (λ r. eq_by_cmp order k (item r))
