use Rattle.std.proofs.Common.{◌∙◌, ◌++◌, ap, flat_map, take_all}
use Rattle.std.specs.Option.{option_to_list}
use Rattle.ticket_explain.specs.CommandLines.{gap_line}
use Rattle.ticket_explain.proofs.audits.push_gaps.Goals as goal

pub returns : goal.returns
returns c =
    c.loop-pair.invariant
    ∙ ap (λ pairs. c.args.text.now ++ flat_map (λ pair. option_to_list (gap_line c.args.feed.now pair)) pairs)
    (take_all c.loop-pair.pair-index c.args.pairs.now c.loop-pair-test.false)
