use Rattle.std.proofs.Common.{◌≡◌, ◌∙◌, refl, ap, sym, ℕ, Bool, length, arith, true, false}
use Rattle.plan_patterns.specs.declared.runs.Run.{Run}
use Rattle.plan_patterns.specs.HeldRuns.{run_with}
use Rattle.plan_patterns.specs.Runs.{has_ride}
use Rattle.plan_patterns.proofs.HeldLaws.{picks_more}
use Rattle.plan_patterns.proofs.held.add_held.Goals as goal
use Rattle.plan_patterns.proofs.held.add_held.Goals.{then-has_ride+in_ok-push, else-has_ride}

pub loop-place-preserved : goal.loop-place-preserved
loop-place-preserved c =
    let run : ℕ → Run = run_with c.args.trip c.args.day c.args.shifts.now in
    let test : ℕ → Bool = λ place. has_ride c.args.span.now (run place) c.args.calls.now in
    let tested = c.has_ride.ensures ∙ ap (λ r. has_ride c.args.span.now r c.args.calls.now) c.run_with-run.ensures.value in
    elim c.if-has_ride.branch [
      | then-has_ride+in_ok-push w ↦ rw w.runs-is (picks_more c.loop-place.place test run c.args.runs.now.items c.loop-place.runs.items _ c.run_with-run.result true c.loop-place.invariant c.run_with-run.ensures.value (sym w.if-has_ride.true ∙ tested) w.in_ok-push.ensures.items)
      | else-has_ride w ↦ rw w.runs-is (picks_more c.loop-place.place test run c.args.runs.now.items c.loop-place.runs.items _ c.run_with-run.result false c.loop-place.invariant c.run_with-run.ensures.value (sym w.if-has_ride.false ∙ tested) refl)
    ]

pub returns : goal.returns
returns c =
    let all : c.loop-place.place ≡ length c.args.shifts.now = omega arith in
    rw (← all) c.loop-place.invariant
