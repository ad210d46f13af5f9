use Rattle.std.proofs.Common.{ap, subst, sym}
use Rattle.fare_automaton.specs.Known.{KnownPicks}
use Rattle.fare_automaton.specs.Terms.{FareTerms}
use Rattle.fare_timeframes.specs.BuiltTimeframes.{AreTimeframesOf}
use Rattle.ride_kinds.proofs.LegKinds.of.Goals as goal

pub invariant_of-result : goal.invariant_of-result
invariant_of-result c = (
  subst (λ (t : FareTerms). AreTimeframesOf t.feed c.args.timeframes.now) (sym (ap (λ (k : KnownPicks). k.terms) c.of.ensures)) c.requires,
  λ ride kind at. absurd (c.in_ok-of.ensures ride kind at),
)
