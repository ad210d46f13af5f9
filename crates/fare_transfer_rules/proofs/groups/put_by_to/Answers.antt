use Rattle.std.proofs.Common.{refl, rules}
use Rattle.std.proofs.lemmas.List.Sorted.{IsNonDecreasingBy-from_sort_by_key, answers_always}
use Rattle.plain_laws.proofs.Laws.{same_ties}
use Rattle.fare_transfer_rules.specs.Classes.{row_to}
use Rattle.fare_transfer_rules.proofs.groups.put_by_to.Goals as goal

pub returns : goal.returns
returns c = record {
  rises = IsNonDecreasingBy-from_sort_by_key (λ m. m.item.to_class) _ c.in_ok-sort_by_key.ensures.sorted (λ a r q k. search rules);
  same = λ class.
      same_ties (λ m. m.item.to_class) _ _ class (record { group = 0; item = row_to class 0 }) refl
      (c.sort_by_key.ensures.stable (λ m. m.item.to_class) (answers_always _ _ _ (λ f a r h k. search rules)));
}
