use Rattle.std.proofs.Common.{Some, sym}
use Rattle.feed_tables.proofs.IdLaws.{row_of_within}
use Rattle.feed_tables.proofs.index.IdIndex.row_from.Goals as goal

pub returns-in-Some-clause-within : goal.returns-in-Some-clause-within
returns-in-Some-clause-within c = row_of_within _ _ _ (Some c.in-Some.row) (sym c.in-Some.ensures.0)

pub returns-in-None-clause-within : goal.returns-in-None-clause-within
returns-in-None-clause-within c = row_of_within _ _ _ _ c.searched_row.ensures
