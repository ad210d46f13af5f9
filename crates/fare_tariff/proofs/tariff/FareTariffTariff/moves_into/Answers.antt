-- The best of enough moves.
use Rattle.std.proofs.Common.{subst, List}
use Rattle.std.specs.Prelude.{OnOk}
use Rattle.feed_rows.specs.declared.states.Move.{Move}
use Rattle.fare_automaton.specs.Fewest.{AreFewerMoves}
use Rattle.round_terms.specs.Labels.{facts_of}
use Rattle.fare_tariff.proofs.TariffLaws.{fewer_fares}
use Rattle.fare_tariff.proofs.tariff.FareTariffTariff.moves_into.Goals as goal

pub returns : goal.returns
returns c =
    let moves = c.best_into.new.moves.items in
    fewer_fares c.best_into.result c.args.self.now (facts_of c.args.label.now) c.args.leg.now.caught.now.facts
    c.all_into.new.room.moves.items moves c.in_ok-all_into.ensures
    (subst (λ (all : List Move). OnOk c.best_into.result (AreFewerMoves all moves)) c.deref.ensures.value c.best_into.ensures)
