use Rattle.std.proofs.Common.{◌≡◌, ◌+◌, ◌++◌, drop}
use Rattle.answer_page.specs.Charts.{place_html}
use Rattle.answer_page.specs.Threads.{numbered}
use Rattle.answer_page.proofs.chart.write_marks.Given as goal

abbrev pub invariant-loop-place : goal.invariant-loop-place
invariant-loop-place l =
    l.page ++ numbered (place_html l.arrivals l.prices) (l.place + 1) (drop l.place l.entries)
    ≡ l.fn.page ++ numbered (place_html l.arrivals l.prices) 1 l.entries
