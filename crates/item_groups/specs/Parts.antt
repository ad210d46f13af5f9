-- A list in parts that lie one after another, by the places where they end.
use Rattle.std.specs.Prelude.{◌≡◌, ℕ, zero, suc, ◌-◌, ◌≤◌, List, [], ◌∷◌, take, drop}

-- a list in parts that end at these places, after a start
abbrev pub parts : {A : Type 0} → ℕ → List ℕ → List A → List (List A)
parts start [] items = []
parts start (end ∷ ends) items = take (end - start) (drop start items) ∷ parts end ends items

-- the places rise from the start, and the last is the size
abbrev pub Rise : ℕ → List ℕ → ℕ → Type 0
Rise start [] size = start ≡ size
Rise start (end ∷ ends) size = (start ≤ end) × Rise end ends size

-- where the part at a place starts
abbrev pub start_of : ℕ → List ℕ → ℕ → ℕ
start_of start [] i = start
start_of start (end ∷ ends) zero = start
start_of start (end ∷ ends) (suc i) = start_of end ends i
