use Rattle.std.proofs.Common.{◌≡◌, ◌++◌, drop}
use Rattle.answer_page.specs.Threads.{threaded}
use Rattle.answer_page.specs.Ways.{step_html, end_of}
use Rattle.answer_page.proofs.ways.write_steps.Given as goal

abbrev pub invariant-loop-step : goal.invariant-loop-step
invariant-loop-step l =
    l.page ++ threaded (step_html l.names l.date) end_of l.at (drop l.step-index l.steps)
    ≡ l.fn.page ++ threaded (step_html l.names l.date) end_of l.leave l.steps
