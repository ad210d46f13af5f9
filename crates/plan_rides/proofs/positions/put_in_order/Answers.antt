use Rattle.std.proofs.Common.{rules}
use Rattle.std.proofs.lemmas.List.Sorted.{answers_always}
use Rattle.plan_rides.specs.Reached.{order_key}
use Rattle.plan_rides.proofs.positions.put_in_order.Goals as goal

pub returns-clause-rises : goal.returns-clause-rises
returns-clause-rises c = c.sort_unstable_by_key.ensures.sorted order_key (answers_always _ _ _ (λ f a r g h. search rules))
