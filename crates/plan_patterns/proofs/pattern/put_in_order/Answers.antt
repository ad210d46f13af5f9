use Rattle.std.proofs.Common.{rules}
use Rattle.std.proofs.lemmas.List.Sorted.{answers_always}
use Rattle.plan_patterns.proofs.ColumnLaws.{in_order}
use Rattle.plan_patterns.proofs.pattern.put_in_order.Goals as goal

pub returns-clause-rises : goal.returns-clause-rises
returns-clause-rises c = in_order _ (c.in_ok-sort_by_key.ensures.sorted (λ b. b.at.0) (answers_always _ _ _ (λ f a r g h. search rules)))
