use Rattle.std.proofs.Common.{◌≡◌, None}
use Rattle.feed_files.specs.declared.names.FileName.TheVariants as file
use Rattle.plain_laws.specs.Plain.{find_below}
use Rattle.feed_faults.specs.FeedTables.{table_in}
use Rattle.feed_faults.specs.FareRelations.{is_bad_frame}
use Rattle.feed_relations.specs.Frames.{AreSeen, frame_of}
use Rattle.feed_relations.proofs.FrameLaws.{frame_order}
use Rattle.feed_relations.proofs.frames.first_bad_frame.Given as goal

abbrev pub invariant-loop-row : goal.invariant-loop-row
invariant-loop-row g l = (find_below l.row (is_bad_frame (table_in l.feed file.Timeframes)) ≡ None) × AreSeen frame_order (frame_of (table_in l.feed file.Timeframes)) l.seen l.row
