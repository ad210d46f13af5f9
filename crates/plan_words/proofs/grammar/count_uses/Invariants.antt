use Rattle.std.proofs.Common.{◌≡◌, ◌≤◌}
use Rattle.std.specs.Prelude.{bytes_eq}
use Rattle.plain_laws.specs.Plain.{count_below}
use Rattle.commands.specs.CommandWords.{word_at}
use Rattle.plan_words.specs.Words.{behind}
use Rattle.plan_words.proofs.grammar.count_uses.Given as goal

abbrev pub invariant-loop-i : goal.invariant-loop-i
invariant-loop-i l = record {
  within : l.count ≤ l.i;
  counted : l.count ≡ count_below l.i (λ i. bytes_eq (word_at (behind l.words) i) l.flag);
}
