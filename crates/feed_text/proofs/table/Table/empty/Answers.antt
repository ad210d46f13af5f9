use Rattle.std.proofs.Common.{refl, arith}
use Rattle.std.specs.Prelude.{None}
use Rattle.std.proofs.lemmas.Simd.{splat_is_map}
use Rattle.feed_files.specs.Names.{all_columns}
use Rattle.feed_faults.specs.Records.{column_of}
use Rattle.feed_text.specs.declared.table.TheConstants.{COLUMNS}
use Rattle.feed_text.proofs.table.Table.empty.Goals as goal

pub invariant_of-result : goal.invariant_of-result
unfolding column_of
invariant_of-result c = rw (c.empty.ensures, c.new.ensures.items) (refl, omega arith, splat_is_map all_columns COLUMNS None refl)
