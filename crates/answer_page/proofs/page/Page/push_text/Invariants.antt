use Rattle.std.proofs.Common.{◌≡◌, ◌++◌, take}
use Rattle.answer_page.specs.Html.{escaped}
use Rattle.answer_page.proofs.page.Page.push_text.Given as goal

abbrev pub invariant-loop-byte : goal.invariant-loop-byte
invariant-loop-byte l = l.self ≡ l.fn.self ++ escaped (take l.byte-index l.text)
