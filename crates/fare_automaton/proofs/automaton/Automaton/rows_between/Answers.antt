-- What is kept at the pair's place, and what is searched for.
use Rattle.std.proofs.Common.{sym, subst}
use Rattle.fare_automaton.specs.Compiled.{ArePairRows}
use Rattle.fare_automaton.specs.Terms.{FareTerms}
use Rattle.fare_automaton.proofs.automaton.Automaton.rows_between.Goals as goal

pub returns-in-Some : goal.returns-in-Some
returns-in-Some c =
    subst (λ (t : FareTerms). ArePairRows t.feed c.self.inside.pairs) c.self.view_is c.self.invariant.5 c.args.from
    c.args.to c.in-Some.place c.group.result.now (sym c.in-Some.ensures) c.group.ensures
