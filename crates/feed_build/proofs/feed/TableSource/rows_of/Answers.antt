use Rattle.std.proofs.Common.{◌≡◌, ◌∙◌, ◌+◌, refl, ap, ◌++◌, ◌∷◌, [], add-one, arith}
use Rattle.plain_laws.specs.Plain.{list_below}
use Rattle.feed_faults.specs.Records.{row_count}
use Rattle.feed_faults.specs.FeedTables.{table_in}
use Rattle.feed_build.proofs.feed.TableSource.rows_of.Goals as goal

pub loop-row-preserved : goal.loop-row-preserved
loop-row-preserved g c =
    let row_in = g.R.FileRow.row_in c.args.self.now in
    let row = c.loop-row.row in
    let more : list_below row row_in ++ row_in row ∷ [] ≡ list_below (row + 1) row_in = rw add-one refl in
    c.in_ok-push.ensures.ok
    ∙ ap (λ rows. rows ++ c.in_ok-of.field-0 ∷ []) c.loop-row.invariant
    ∙ ap (λ made. list_below row row_in ++ made ∷ []) c.in_ok-of.ensures.row
    ∙ more

pub returns : goal.returns
returns g c =
    let all : c.loop-row.row ≡ c.rows-row-end.result = omega arith in
    let count : c.rows-row-end.result ≡ row_count (table_in c.args.self.now c.args.file) = rw (c.get-table.ensures, c.self.view_is) at c.rows-row-end.ensures.count in
    c.loop-row.invariant ∙ ap (λ n. list_below n (g.R.FileRow.row_in c.args.self.now)) (all ∙ count)
