-- What the rows within the group and from it say, part by part.
use Rattle.std.proofs.Common.{◌∙◌, ap}
use Rattle.feed_rows.specs.FeedRows.{FeedRows}
use Rattle.fare_automaton.proofs.ReadLaws.{reads_are}
use Rattle.fare_automaton.proofs.reads.reads_of.Goals as goal

pub returns : goal.returns
returns c =
    let feed = c.args.feed.now in
    reads_are feed c.args.group c.items-rows.result.now c.rows_between.result.now c.rows_from-from.result.now c.greatest_among.result
    c.some_limit.result c.some_limit-2.result
    (c.items-rows.ensures.value ∙ ap (λ (f : FeedRows). f.transfer_rules) c.feed.view_is)
    (c.rows_between.ensures feed c.requires) (c.rows_from-from.ensures feed c.requires)
    c.greatest_among.ensures c.some_limit.ensures c.some_limit-2.ensures
