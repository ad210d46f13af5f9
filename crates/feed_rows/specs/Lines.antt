-- The lines of printed texts: words with a tab between, and a line feed at the end.
use Rattle.std.specs.Prelude.{ℕ, List, [], ◌∷◌, ◌++◌}

-- each field behind a tab, and a line feed
abbrev pub fields_text : List (List ℕ) → List ℕ
fields_text [] = 10 ∷ []
fields_text (field ∷ fields) = 9 ∷ field ++ fields_text fields

-- the line of a word and its fields
abbrev pub line : List ℕ → List (List ℕ) → List ℕ
line word fields = word ++ fields_text fields
