-- A text cut into lines, and a line into fields.
use Rattle.std.specs.Prelude.{ℕ, ◌-◌, ◌==◌, List, [], length, take, slice_get, unwrap_or}
use Rattle.std.specs.List.{slice_split}

-- the parts of a text that line feeds part
abbrev pub line_parts : List ℕ → List (List ℕ)
line_parts text = slice_split (λ byte. byte == 10) text

-- the lines of a text, each without its line feed; what follows the last line feed is no line
abbrev pub lines_in : List ℕ → List (List ℕ)
lines_in text = take (length (line_parts text) - 1) (line_parts text)

-- the fields of a line that tabs part, its word first
abbrev pub fields_in : List ℕ → List (List ℕ)
fields_in line = slice_split (λ byte. byte == 9) line

-- the field at a place; empty where there is none
abbrev pub field : List (List ℕ) → ℕ → List ℕ
field fields place = unwrap_or (slice_get fields place) []
