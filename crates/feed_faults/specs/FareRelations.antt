-- Timeframes, products, transfer rules and rules by which legs join, among the rows of their file.
use Rattle.std.specs.Prelude.{ℕ, ◌&&◌, ◌||◌, not, nat_lt, if◌then◌else◌, Bool, List, bytes_eq}
use Rattle.feed_files.specs.declared.names.ColumnName.TheVariants.{ServiceId, TimeframeGroupId, StartTime, EndTime, RiderCategoryId, FareMediaId, FareProductId, Currency, FromStopId, ToStopId, FromLegGroupId, ToLegGroupId, TransferCount, DurationLimit, DurationLimitType}
use Rattle.feed_faults.specs.Records.{FileTable, field, is_filled}
use Rattle.feed_faults.specs.FieldValues.{frame_start, frame_end}
use Rattle.feed_faults.specs.RowKeys.{same_field, is_repeated}

-- one of two fields is filled without the other
abbrev pub is_one_filled : List ℕ → List ℕ → Bool
is_one_filled a b = (is_filled a && not (is_filled b)) || (is_filled b && not (is_filled a))

-- two rows are of one group and one service, and their times overlap; the end is no part of a timeframe
unfoldable pub do_frames_overlap : FileTable → ℕ → ℕ → Bool
do_frames_overlap frames a b =
    same_field frames TimeframeGroupId a b && same_field frames ServiceId a b
    && nat_lt (frame_start frames a) (frame_end frames b) && nat_lt (frame_start frames b) (frame_end frames a)

-- one time without the other, a start not before the end, or an overlap with an earlier row (timeframes.txt: start_time,
-- end_time)
unfoldable pub is_bad_frame : FileTable → ℕ → Bool
is_bad_frame frames row =
    is_one_filled (field frames row StartTime) (field frames row EndTime)
    || not (nat_lt (frame_start frames row) (frame_end frames row))
    || is_repeated (do_frames_overlap frames) row

-- two rows are of one product, one rider category and one medium, where empty fields are the same too
unfoldable pub same_product : FileTable → ℕ → ℕ → Bool
same_product products a b =
    same_field products FareProductId a b && same_field products RiderCategoryId a b && same_field products FareMediaId a b

-- the currency differs from that of the first row (profile)
unfoldable pub is_currency_mixed : FileTable → ℕ → Bool
is_currency_mixed products row = not (same_field products Currency 0 row)

-- a count against the groups: where a group is filled, the count is required if the two are equal, and forbidden if not;
-- where both are empty it may stand or not (fare_transfer_rules.txt: transfer_count; the last is of the profile)
unfoldable pub is_count_misplaced : FileTable → ℕ → Bool
is_count_misplaced rules row =
    (is_filled (field rules row FromLegGroupId) || is_filled (field rules row ToLegGroupId))
    && (if bytes_eq (field rules row FromLegGroupId) (field rules row ToLegGroupId)
    then not (is_filled (field rules row TransferCount)) else is_filled (field rules row TransferCount))

-- a limit without its type, or a type without a limit (fare_transfer_rules.txt: duration_limit_type)
unfoldable pub is_limit_half : FileTable → ℕ → Bool
is_limit_half rules row = is_one_filled (field rules row DurationLimit) (field rules row DurationLimitType)

-- one of the two stops between which legs join is named without the other (fare_leg_join_rules.txt: from_stop_id, to_stop_id)
unfoldable pub is_one_stop_named : FileTable → ℕ → Bool
is_one_stop_named joins row = is_one_filled (field joins row FromStopId) (field joins row ToStopId)
