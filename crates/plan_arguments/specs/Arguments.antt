-- What the arguments of the program name. The first of them is the program's own name.
use Rattle.std.specs.Prelude.{ℕ, List, [], ◌∷◌, codes}
use Rattle.plan_arguments.specs.declared.arguments.ArgumentError.{ArgumentError}
use Rattle.plan_arguments.specs.declared.arguments.ArgumentError.TheVariants as error

-- the path of the feed's folder: the argument behind the program's name, or `.` where there is none
abbrev pub path_in : List (List ℕ) → List ℕ
path_in (program ∷ path ∷ words) = path
path_in (program ∷ []) = codes "."
path_in [] = codes "."

-- the words of the command: the arguments behind the path
abbrev pub words_in : List (List ℕ) → List (List ℕ)
words_in (program ∷ path ∷ words) = words
words_in (program ∷ []) = []
words_in [] = []

-- the number with which the program ends where its arguments can't be had
abbrev pub number_without : ArgumentError → ℕ
number_without error.NoMemory = 6
number_without error.Unreadable = 7
