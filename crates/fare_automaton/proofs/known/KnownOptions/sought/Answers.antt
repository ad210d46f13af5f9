-- A list of the leg's kind that is found, and one that is kept.
use Rattle.std.proofs.Common.{subst, sym}
use Rattle.leg_kinds.specs.Kinds.{kept_for, IsOfKind}
use Rattle.fare_automaton.specs.Fewest.{AreFewer}
use Rattle.fare_automaton.specs.Known.{KnownPicks}
use Rattle.fare_automaton.proofs.FewestLaws.{enough_of}
use Rattle.fare_automaton.proofs.KnownLaws.{without_moments, picks_still, kind_last, kind_still}
use Rattle.fare_automaton.proofs.known.KnownOptions.sought.Goals as goal

pub returns-in-Some-clause-known : goal.returns-in-Some-clause-known
returns-in-Some-clause-known c =
    subst (λ (k : KnownPicks). IsOfKind k.lists c.args.leg.now c.in-Some.number) c.self.view_is c.in-Some.ensures.kept

pub invariant_of-self : goal.invariant_of-self
invariant_of-self c =
    let terms = c.self.inside.automaton.now in
    let few = subst (λ options. AreFewer terms.feed options c.in_ok-fewest.fewest.items) c.deref.ensures.value c.in_ok-fewest.ensures in
    let picks = c.in_ok-fewest.fewest.items in
    picks_still terms c.self.inside.table c.keep.new.self (kept_for c.args.leg.now picks) c.keep.result c.keep.ensures.kept c.keep.ensures.err
    c.self.invariant (without_moments terms.feed terms.buyer c.args.leg.now picks
    (enough_of terms.feed terms.buyer c.args.leg.now _ picks c.in_ok-options.ensures few))

pub returns-clause-known : goal.returns-clause-known
returns-clause-known c =
    kind_last c.self.inside.table c.keep.new.self c.args.leg.now c.in_ok-fewest.fewest.items c.keep.result c.keep.ensures.number c.keep.ensures.kept

pub returns-clause-still : goal.returns-clause-still
returns-clause-still c = λ other number before.
    kind_still c.self.inside.table c.keep.new.self (kept_for c.args.leg.now c.in_ok-fewest.fewest.items) other number c.keep.result
    c.keep.ensures.kept c.keep.ensures.err (subst (λ (k : KnownPicks). IsOfKind k.lists other number) (sym c.self.view_is) before)
