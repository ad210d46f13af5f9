use Rattle.std.proofs.lemmas.Slice.Eq.{slice_eq-Decides}
use Rattle.pareto_front.proofs.SameTriples.{same_test}
use Rattle.pareto_front.proofs.triples.are_equal.Goals as goal

pub returns : goal.returns
returns c = slice_eq-Decides same_test c.args.one.now c.args.other.now c.eq.result c.eq.ensures
