use Rattle.std.proofs.Common.{◌≡◌, ◌∙◌, refl, sym, ap, nat_lt, arith}
use Rattle.std.specs.Prelude.{not}
use Rattle.std.proofs.lemmas.Grind.{common_steps}
use Rattle.std.proofs.lemmas.Bool.Decides.{nat_tests}
use Rattle.feed_files.specs.declared.names.ColumnName.TheVariants.{StartTime, EndTime}
use Rattle.feed_faults.specs.Records.{field}
use Rattle.feed_faults.specs.FieldValues.{frame_start, frame_end}
use Rattle.feed_faults.specs.FareRelations.{is_one_filled}
use Rattle.feed_relations.specs.declared.frames.Frame.{Frame}
use Rattle.feed_relations.proofs.FrameLaws.{by_ways}
use Rattle.feed_relations.proofs.frames.is_bad.Goals as goal

pub returns-then-is_half : goal.returns-then-is_half
returns-then-is_half c =
    let table = c.args.table.now in
    let row = c.args.row in
    let one : c.is_one_filled-is_half.result ≡ is_one_filled (field table row StartTime) (field table row EndTime) = rw (← c.field.ensures, ← c.field-2.ensures) c.is_one_filled-is_half.ensures in
    let late : not (nat_lt c.args.frame.start c.args.frame.end) ≡ not (nat_lt (frame_start table row) (frame_end table row)) = ap (λ (f : Frame). not (nat_lt f.start f.end)) c.requires.frame in
    sym (by_ways table row c.is_one_filled-is_half.result (not (nat_lt c.args.frame.start c.args.frame.end)) _ one late refl ∙ grind (arith, common_steps, nat_tests, c.then-is_half.either))

pub returns : goal.returns
returns c =
    let table = c.args.table.now in
    let row = c.args.row in
    let one : c.is_one_filled-is_half.result ≡ is_one_filled (field table row StartTime) (field table row EndTime) = rw (← c.field.ensures, ← c.field-2.ensures) c.is_one_filled-is_half.ensures in
    let late : not (nat_lt c.args.frame.start c.args.frame.end) ≡ not (nat_lt (frame_start table row) (frame_end table row)) = ap (λ (f : Frame). not (nat_lt f.start f.end)) c.requires.frame in
    let over = c.is_overlapping.ensures table row c.requires.within c.requires.none c.requires.seen c.requires.frame in
    sym (by_ways table row c.is_one_filled-is_half.result (not (nat_lt c.args.frame.start c.args.frame.end)) c.is_overlapping.result one late over ∙ grind (arith, common_steps, nat_tests, c.if-is_half.false, c.if-frame.false))
