use Rattle.std.proofs.Common.{◌≡◌, ◌<◌, ◌+◌, ◌*◌, ◌∙◌, ◌++◌, ap, sym, subst, ℕ, List, map, pos, ◌-ℤ◌, ℤ, [], ◌∷◌, rules, arith}
use Rattle.std.proofs.lemmas.Int.{to_z-of_z}
use mir.Syntax.{w64}
use mir.Val.{SFits}
use Rattle.feed_rows.specs.Shifts.{run_count}
use Rattle.plain_laws.specs.Plain.{list_below}
use Rattle.feed_laws.proofs.ShiftLaws.{run_starts_counted}
use Rattle.feed_trips.proofs.RunLaws.{run_fits, start_fits, shifts_on}
use Rattle.feed_trips.proofs.runs.push_shifts.Goals as goal

pub runs_in-run-end-requires : goal.runs_in-run-end-requires
runs_in-run-end-requires c = c.requires

pub overflow_mul-run : goal.overflow_mul-run
overflow_mul-run c = run_fits c.args.row.now c.loop-run.run c.requires (subst (λ n. c.loop-run.run < n) c.runs_in-run-end.ensures c.loop-run-test.true)

pub overflow_add-row : goal.overflow_add-row
overflow_add-row c = start_fits c.args.row.now c.loop-run.run c.requires (subst (λ n. c.loop-run.run < n) c.runs_in-run-end.ensures c.loop-run-test.true)

pub loop-run-preserved : goal.loop-run-preserved
loop-run-preserved c =
    let start : ℕ → ℕ = λ x. c.args.row.now.start + x * c.args.row.now.headway in
    let next : ℤ = pos (start c.loop-run.run) -ℤ pos c.args.first in
    let fits : SFits w64 c.shift_of.result = search rules in
    let is : c.shift_of.result ≡ next = c.shift_of.ensures in
    c.in_ok-push.ensures.items ∙ ap (λ (z : ℤ). c.loop-run.shifts.items ++ z ∷ []) (to_z-of_z w64 c.shift_of.result fits ∙ is) ∙ ap (λ (zs : List ℤ). zs ++ next ∷ []) c.loop-run.invariant ∙ shifts_on c.args.shifts.now.items c.args.first start c.loop-run.run

pub returns : goal.returns
returns c =
    let start : ℕ → ℕ = λ x. c.args.row.now.start + x * c.args.row.now.headway in
    let at_end : c.loop-run.run ≡ run_count c.args.row.now = (omega (arith, c.loop-run-test.false, c.loop-run.auto.run-end)) ∙ c.runs_in-run-end.ensures in
    c.loop-run.invariant ∙ ap (λ (xs : List ℕ). c.args.shifts.now.items ++ map (λ s. pos s -ℤ pos c.args.first) xs) (ap (λ n. list_below n start) at_end ∙ sym (run_starts_counted c.args.row.now))
