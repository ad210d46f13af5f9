use Rattle.std.proofs.Common.{◌≡◌, ◌++◌, take, flat_map}
use Rattle.answer_page.specs.Tickets.{fare_html}
use Rattle.answer_page.proofs.tickets.write_fares.Given as goal

abbrev pub invariant-loop-fare : goal.invariant-loop-fare
invariant-loop-fare l = l.page ≡ l.fn.page ++ flat_map (fare_html l.currency) (take l.fare-index l.fares)
