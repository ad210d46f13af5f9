-- One row more.
use Rattle.std.proofs.Common.{sym}
use Rattle.std.proofs.lemmas.List.{append-nil}
use Rattle.transit_base.specs.declared.numbers.ProductRowId.{ProductRowId}
use Rattle.fare_automaton.specs.Options.{pick_of}
use Rattle.fare_automaton.proofs.AddedLaws.{map_added, map_whole}
use Rattle.fare_automaton.proofs.options.push_rows.Goals as goal

pub loop-row-init : goal.loop-row-init
loop-row-init c = sym (append-nil c.args.picks.now.items)

pub loop-row-preserved : goal.loop-row-preserved
loop-row-preserved c =
    map_added (λ (row : ProductRowId). pick_of c.args.rule.0 row.0) c.args.rows.now c.loop-row.row-index _ _ _ _
    c.loop-row-test.true c.loop-row.invariant c.in_ok-push.ensures.items

pub returns : goal.returns
returns c =
    map_whole (λ (row : ProductRowId). pick_of c.args.rule.0 row.0)
    c.args.rows.now c.loop-row.row-index _ _ c.loop-row-test.false c.loop-row.invariant
