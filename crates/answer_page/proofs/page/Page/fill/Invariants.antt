use Rattle.std.proofs.Common.{◌≡◌, ◌++◌, ◌≤◌, drop}
use Rattle.answer_page.specs.Html.{filled, part_html, next_after}
use Rattle.answer_page.specs.Threads.{threaded}
use Rattle.answer_page.proofs.page.Page.fill.Given as goal

abbrev pub invariant-loop-byte : goal.invariant-loop-byte
invariant-loop-byte l =
    (l.self ++ threaded (λ next byte. part_html byte l.values next) (λ next byte. next_after byte next) l.next (drop l.byte-index l.byte-items)
    ≡ l.fn.self ++ filled l.byte-items l.values)
    × (l.next ≤ l.byte-index)
