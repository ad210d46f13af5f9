-- Fewer of fewer.
use Rattle.std.proofs.Common.{subst}
use Rattle.std.proofs.lemmas.Result.{IfOk-weaker}
use Rattle.fare_automaton.specs.Fewest.{AreFewer}
use Rattle.fare_automaton.proofs.FewestLaws.{fewer-trans}
use Rattle.fare_automaton.proofs.automaton.Automaton.fewest.Goals as goal

pub returns : goal.returns
returns c =
    let feed = c.args.self.now.feed in
    let options = c.args.options.now in
    let some = c.in_ok-fewer.fewer.items in
    IfOk-weaker c.fewer-2.result _ _
    (λ last is. fewer-trans feed options some last.items c.in_ok-fewer.ensures (subst (λ xs. AreFewer feed xs last.items) c.deref.ensures.value is)) c.fewer-2.ensures
