-- Texts of items, one behind another, each by what the items before it led to.
use Rattle.std.specs.Prelude.{ℕ, ◌+◌, List, [], ◌∷◌, ◌++◌}

-- what f gives at each item in turn, where each item leads on to what the next one is told by
unfoldable pub threaded : {S X : Type 0} → (S → X → List ℕ) → (S → X → S) → S → List X → List ℕ
threaded f next s [] = []
threaded f next s (x ∷ xs) = f s x ++ threaded f next (next s x) xs

-- what f gives at each item and its number, counted from this one
abbrev pub numbered : {X : Type 0} → (ℕ → X → List ℕ) → ℕ → List X → List ℕ
numbered f first xs = threaded f (λ number _. number + 1) first xs
