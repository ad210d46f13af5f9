use Rattle.std.proofs.Common.{◌∙◌, ap, pos, ◌-ℤ◌, ◌++◌, List, ℤ, map, get_or}
use Rattle.std.proofs.lemmas.List.{take_all}
use Rattle.feed_rows.specs.Shifts.{run_starts}
use Rattle.feed_trips.specs.Runs.{shifts_against}
use Rattle.feed_trips.proofs.RunLaws.{shifts_more}
use Rattle.feed_trips.proofs.runs.shifts_against.Goals as goal

pub loop-row-init : goal.loop-row-init
loop-row-init c = c.new-shifts.ensures.items

pub push_shifts-requires : goal.push_shifts-requires
push_shifts-requires c = c.requires c.loop-row.row-index _ c.loop-row-test.true

pub loop-row-preserved : goal.loop-row-preserved
loop-row-preserved c =
    let next : List ℤ = map (λ start. pos start -ℤ pos c.args.first) (run_starts (get_or c.args.rows.now c.loop-row.row-index (record { trip = record { 0 = 0 }; start = 0; end = 0; headway = 0 }))) in
    c.in_ok-push_shifts.ensures ∙ ap (λ (xs : List ℤ). xs ++ next) c.loop-row.invariant ∙ shifts_more c.args.first c.args.rows.now c.loop-row.row-index (record { trip = record { 0 = 0 }; start = 0; end = 0; headway = 0 }) c.loop-row-test.true

pub returns : goal.returns
returns c = c.loop-row.invariant ∙ ap (shifts_against c.args.first) (take_all c.loop-row.row-index c.args.rows.now c.loop-row-test.false)
