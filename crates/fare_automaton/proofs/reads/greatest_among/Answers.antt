use Rattle.std.proofs.Common.{◌∙◌, ap, take_all}
use Rattle.std.specs.Prelude.{fold, map, max}
use Rattle.fare_transfer_rules.specs.declared.groups.ClassedRow.{ClassedRow}
use Rattle.fare_automaton.specs.Compiled.{count_at}
use Rattle.fare_automaton.proofs.reads.greatest_among.Goals as goal

pub returns : goal.returns
returns c =
    c.loop-classed.invariant
    ∙ ap (λ among. fold max 0 (map (λ (r : ClassedRow). count_at c.args.rows.now r.row) among))
    (take_all c.loop-classed.classed-index c.args.among.now c.loop-classed-test.false)
