-- A network past the end of the marks isn't marked.
use Rattle.std.proofs.Common.{arith}
use Rattle.std.proofs.lemmas.Bool.Decides.{nat_tests}
use Rattle.std.proofs.lemmas.Option.{slice_get_within}
use Rattle.std.specs.Prelude.{true}
use Rattle.fare_tariff.proofs.lasts.is_of_marked.Goals as goal

pub returns-in-None-get : goal.returns-in-None-get
returns-in-None-get c of_marked =
    let past = c.in-None-get.ensures.lookup in
    let within = slice_get_within c.args.networks.now _ true (of_marked c.in-Some.network c.in-Some.is) in
    absurd (grind (arith, nat_tests))
