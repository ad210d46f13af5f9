-- What is kept for the group.
use Rattle.std.proofs.Common.{◌∙◌, sym, ap, subst, List}
use Rattle.std.specs.Prelude.{slice_get, Some}
use Rattle.std.proofs.lemmas.Option.{slice_get-get_or}
use Rattle.fare_automaton.specs.declared.reads.GroupReads.{GroupReads}
use Rattle.fare_automaton.specs.Compiled.{AreReads}
use Rattle.fare_automaton.specs.Terms.{FareTerms}
use Rattle.fare_automaton.proofs.ReadLaws.{read_is}
use Rattle.fare_automaton.proofs.automaton.Automaton.reads.Goals as goal

pub returns-in-Some : goal.returns-in-Some
returns-in-Some c =
    read_is c.args.self.now.feed c.self.inside.reads.items c.args.group c.in-Some.reads.now
    (subst (λ (t : FareTerms). AreReads t.feed c.self.inside.reads.items) c.self.view_is c.self.invariant.2)
    (ap (λ (reads : List GroupReads). slice_get reads c.args.group.0) (sym c.deref.ensures.value)
    ∙ slice_get-get_or c.deref.result.now c.args.group.0 c.in-Some.reads.now c.in-Some.ensures.lookup.3.0 ∙ ap Some (sym c.in-Some.ensures.lookup.1))
