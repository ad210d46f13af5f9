-- The words behind the one that names a command.
use Rattle.std.specs.Prelude.{ℕ, List, [], ◌∷◌}
use Rattle.plain_laws.specs.Plain.{list_below}
use Rattle.commands.specs.CommandWords.{CommandForm, role_at}
use Rattle.commands.specs.declared.usage.WordRole.{WordRole}

-- the words behind the first
abbrev pub behind : List (List ℕ) → List (List ℕ)
behind [] = []
behind (word ∷ words) = words

-- what each of the first n words is
abbrev pub roles_below : CommandForm → List (List ℕ) → ℕ → List WordRole
roles_below form words n = list_below n (role_at form words)
