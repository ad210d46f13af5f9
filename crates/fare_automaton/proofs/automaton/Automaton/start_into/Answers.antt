-- The moves of one option more; and those of all options are all that there are.
use Rattle.std.proofs.Common.{arith}
use Rattle.fare_automaton.specs.Options.{first_made}
use Rattle.fare_automaton.proofs.MadeLaws.{added_made, whole_made, starts_are}
use Rattle.fare_automaton.proofs.FewestLaws.{starts_enough}
use Rattle.fare_laws.proofs.StartLaws.{start_extends}
use Rattle.fare_automaton.proofs.automaton.Automaton.start_into.Goals as goal

pub loop-number-init : goal.loop-number-init
loop-number-init c = c.clear.ensures.items

pub loop-number-preserved : goal.loop-number-preserved
loop-number-preserved c =
    added_made _ _ (first_made c.args.self.now.feed c.args.times) c.args.options.now c.loop-number.number _ (omega arith)
    c.loop-number.invariant c.in_ok-push_first.ensures

pub returns-clause-all : goal.returns-clause-all
returns-clause-all c leg same picks =
    let feed = c.args.self.now.feed in
    let buyer = c.args.self.now.buyer in
    let moves = c.loop-number.moves.items in
    let are = starts_are feed buyer leg c.args.options.now moves picks
    (whole_made (first_made feed) c.args.options.now moves c.loop-number.number c.args.times _ (omega arith) same c.loop-number.invariant) in
    record { exact = are; extends = λ choice pays. start_extends feed buyer leg choice moves pays are }

pub returns-clause-enough : goal.returns-clause-enough
returns-clause-enough c leg same picks =
    starts_enough c.args.self.now.feed c.args.self.now.buyer leg c.args.options.now c.loop-number.moves.items picks
    (whole_made (first_made c.args.self.now.feed) c.args.options.now _ c.loop-number.number c.args.times _ (omega arith) same c.loop-number.invariant)
