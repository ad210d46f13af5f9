-- What is pushed is the list.
use Rattle.std.proofs.Common.{sym, ◌∙◌, subst}
use Rattle.std.proofs.lemmas.Result.{IfOk-weaker}
use Rattle.fare_automaton.specs.Options.{ArePicks}
use Rattle.fare_automaton.specs.Steps.{AreStarts}
use Rattle.fare_automaton.proofs.automaton.Automaton.start.Goals as goal

pub returns : goal.returns
returns c =
    let feed = c.args.self.now.feed in
    let buyer = c.args.self.now.buyer in
    let leg = c.args.leg.now in
    let picks = subst (ArePicks feed buyer leg) (sym c.deref.ensures.value) c.in_ok-options.ensures in
    let are = c.in_ok-start_into.ensures.all leg (sym c.times_of.ensures) picks in
    IfOk-weaker c.move_list.result _ _ (λ list is. subst (AreStarts feed buyer leg) (sym (is ∙ c.deref-2.ensures.value)) are) c.move_list.ensures
