use Rattle.std.proofs.Common.{◌≡◌, map, string_bytes, take}
use Rattle.plan_arguments.proofs.command.words_of.Given as goal

abbrev pub invariant-loop-argument : goal.invariant-loop-argument
invariant-loop-argument l = l.words ≡ map string_bytes (take l.argument-index l.arguments)
