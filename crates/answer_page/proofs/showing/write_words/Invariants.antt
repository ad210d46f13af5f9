use Rattle.std.proofs.Common.{◌≡◌, ◌++◌, take, flat_map}
use Rattle.answer_page.specs.Pages.{word_html}
use Rattle.answer_page.proofs.showing.write_words.Given as goal

abbrev pub invariant-loop-place : goal.invariant-loop-place
invariant-loop-place l = l.page ≡ l.fn.page ++ flat_map word_html (take l.place l.words)
