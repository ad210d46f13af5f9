use Rattle.std.proofs.Common.{◌≡◌, ◌+◌, ◌++◌, drop}
use Rattle.answer_page.specs.Journeys.{journey_html}
use Rattle.answer_page.specs.Threads.{numbered}
use Rattle.answer_page.proofs.showing.write_entries.Given as goal

abbrev pub invariant-loop-place : goal.invariant-loop-place
invariant-loop-place l =
    l.page ++ numbered (journey_html l.names l.date l.times) (l.place + 1) (drop l.place l.entries)
    ≡ l.fn.page ++ numbered (journey_html l.names l.date l.times) 1 l.entries
