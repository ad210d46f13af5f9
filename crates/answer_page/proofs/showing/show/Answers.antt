use Rattle.std.proofs.Common.{rules}
use Rattle.answer_page.proofs.OwnLaws.{page_own}
use Rattle.answer_page.proofs.showing.show.Goals as goal

pub returns-in-All : goal.returns-in-All
returns-in-All g c = search (rules, page_own)

pub returns : goal.returns
returns g c = search (rules, page_own)
