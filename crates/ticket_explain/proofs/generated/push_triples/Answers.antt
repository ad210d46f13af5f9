use Rattle.std.proofs.Common.{◌∙◌, ◌++◌, ap, map, take_all}
use Rattle.feed_rows.specs.GeneratedTexts.{triple_line}
use Rattle.ticket_explain.proofs.generated.push_triples.Goals as goal

pub returns : goal.returns
returns c =
    c.loop-entry.invariant
    ∙ ap (λ entries. c.args.text.now ++ map (triple_line c.args.feed.now) (map (λ entry. entry.triple) entries))
    (take_all c.loop-entry.entry-index c.args.entries.now c.loop-entry-test.false)
