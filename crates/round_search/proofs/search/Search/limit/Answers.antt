use Rattle.std.proofs.Common.{subst}
use Rattle.round_search.proofs.search.Search.limit.Goals as goal

pub returns-clause-laws : goal.returns-clause-laws
returns-clause-laws g c = record {
  order = g.met.T.Fare.LabelOrder.laws;
  fares = g.met.T.Tariff.lawful c.args.self.now (subst g.T.Tariff.Serves c.self.view_is c.self.invariant.1);
}
