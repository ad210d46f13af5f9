-- The orders of triples order whatever has a triple.
use Rattle.feed_rows.specs.declared.fares.Triple.{Triple}
use Rattle.feed_rows.specs.ParetoTriples.{at_most, is_before}
use Rattle.feed_laws.proofs.ParetoLaws.{at_most-refl, at_most-trans, at_most-of_level, is_before-trans, is_before-of_at_most}
use Rattle.pareto_front.specs.Ranks.{RankLaws}

-- such as an entry, or what is found
pub triple_laws : {X : Type 0} (triple : X → Triple) →
    RankLaws (λ (a : X) (b : X). at_most (triple a) (triple b)) (λ (a : X) (b : X). is_before (triple a) (triple b))
triple_laws triple = record {
  reflexive = λ x. at_most-refl (triple x);
  transitive = λ x y z. at_most-trans (triple x) (triple y) (triple z);
  onward = λ x y z. is_before-trans (triple x) (triple y) (triple z);
  total = λ x y. at_most-of_level (triple x) (triple y);
  upward = λ x y. is_before-of_at_most (triple x) (triple y);
}
