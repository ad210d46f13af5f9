use Rattle.std.proofs.Common.{refl}
use Rattle.plan_rounds.proofs.plan.rounds.Goals as goal

pub returns-clause-sound : goal.returns-clause-sound
returns-clause-sound c =
    let is = c.in_ok-table.ensures.exact in
    record {
      real = is.real.real;
      bags = is.real.bags;
      no_excess = is.real.no_excess;
      covers = is.covers refl;
      exact = (is.exact refl).exact;
      pruned = is.real.pruned;
    }

pub returns-clause-closed : goal.returns-clause-closed
returns-clause-closed c = c.in_ok-table.ensures.exact.closed refl

pub returns-clause-offers : goal.returns-clause-offers
returns-clause-offers c = (c.in_ok-table.ensures.exact.exact refl).offers
