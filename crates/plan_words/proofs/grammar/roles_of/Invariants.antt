use Rattle.std.proofs.Common.{◌≡◌}
use Rattle.commands.specs.Table.{form_of}
use Rattle.plan_words.specs.Words.{behind, roles_below}
use Rattle.plan_words.proofs.grammar.roles_of.Given as goal

abbrev pub invariant-loop-i : goal.invariant-loop-i
invariant-loop-i l = l.roles.items ≡ roles_below (form_of l.command) (behind l.words) l.i
