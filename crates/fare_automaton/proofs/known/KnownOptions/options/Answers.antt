-- What is kept is enough for each leg of its kind.
use Rattle.std.proofs.Common.{subst, sym}
use Rattle.leg_kinds.specs.Kinds.{IsOfKind}
use Rattle.fare_automaton.specs.Fewest.{AreEnough}
use Rattle.fare_automaton.specs.Known.{KnownPicks}
use Rattle.fare_automaton.proofs.KnownLaws.{picks_kept}
use Rattle.fare_automaton.proofs.known.KnownOptions.options.Goals as goal

pub returns : goal.returns
returns c = λ leg kind.
    let terms = c.self.inside.automaton.now in
    subst (λ (k : KnownPicks). AreEnough k.terms.feed k.terms.buyer leg c.list.result.now) c.self.view_is
    (subst (AreEnough terms.feed terms.buyer leg) (sym c.list.ensures)
    (picks_kept terms c.self.inside.table leg c.args.number c.self.invariant
    (subst (λ (k : KnownPicks). IsOfKind k.lists leg c.args.number) (sym c.self.view_is) kind)))
