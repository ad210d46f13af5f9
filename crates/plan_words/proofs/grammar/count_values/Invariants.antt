use Rattle.std.proofs.Common.{◌≡◌, ◌≤◌}
use Rattle.std.specs.Prelude.{is_some}
use Rattle.plain_laws.specs.Plain.{count_below}
use Rattle.commands.specs.CommandWords.{value_at}
use Rattle.plan_words.specs.Words.{behind}
use Rattle.plan_words.proofs.grammar.count_values.Given as goal

abbrev pub invariant-loop-i : goal.invariant-loop-i
invariant-loop-i l = record {
  within : l.count ≤ l.i;
  counted : l.count ≡ count_below l.i (λ i. is_some (value_at (behind l.words) l.option i));
}
