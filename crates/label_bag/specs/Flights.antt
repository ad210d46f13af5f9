-- Members class by class, each class in ascending order of height.
use Rattle.std.specs.Prelude.{◌≡◌, ℕ, ◌+◌, ◌<◌, ◌≤◌, ℤ, ◌≤ℤ◌, Bool, true, false, List, [], ◌∷◌, length, take, drop, sum_by, slice_range, All, AllPairs}
use denote.Struct.Props.{props}
use Rattle.std.specs.List.{HoldsAt}
use Rattle.label_bag.specs.declared.flights.Flight.{Flight}
use Rattle.label_bag.specs.declared.flights.Place.{Place}

-- no member is of this class
abbrev pub NoneOf : {X C : Type 0} → (C → C → Bool) → (X → C) → C → List X → Type 0
NoneOf same class_of class xs = All (λ x. same (class_of x) class ≡ false) xs

module _ {X C : Type 0} (same : C → C → Bool) (class_of : X → C) (height_of : X → ℤ) where
  -- labels of one class, in ascending order of height
  pub record IsFlight (class : C) (xs : List X) : Type 0 where
    pub classed : All (λ x. same (class_of x) class ≡ true) xs
    pub rising : AllPairs (λ x y. height_of x ≤ℤ height_of y) xs

  -- the members are these flights, one after another
  abbrev pub AreFlights : List (Flight C) → List X → Type 0
  AreFlights [] xs = length xs ≡ 0
  AreFlights (f ∷ fs) xs = (f.size ≤ length xs) × IsFlight f.class (take f.size xs) × AreFlights fs (drop f.size xs)

  pub AreFlights-prop : (fs : List (Flight C)) (xs : List X) → IsProp (AreFlights fs xs)
  AreFlights-prop [] xs = hlevel props
  AreFlights-prop (f ∷ fs) xs = let rest = AreFlights-prop fs (drop f.size xs) in hlevel (props, rest)

  -- the members of a class stand from one place to another, in order, and all others outside
  pub record IsCut (class : C) (xs : List X) (begin end : ℕ) : Type 0 where
    pub order : begin ≤ end
    pub bound : end ≤ length xs
    pub before : NoneOf same class_of class (take begin xs)
    pub flight : IsFlight class (slice_range xs begin end)
    pub after : NoneOf same class_of class (drop end xs)

module _ {C : Type 0} (same : C → C → Bool) where
  -- no two flights are of one class
  abbrev pub AreDistinct : List (Flight C) → Type 0
  AreDistinct fs = AllPairs (λ (f : Flight C) (g : Flight C). same f.class g.class ≡ false) fs

  -- no flight is of this class
  abbrev pub LacksClass : List (Flight C) → C → Type 0
  LacksClass fs class = All (λ (f : Flight C). same f.class class ≡ false) fs

  -- the place is that of a flight of this class
  pub record IsPlace (fs : List (Flight C)) (class : C) (p : Place) : Type 0 where
    pub listed : p.number < length fs
    pub begins : p.begin ≡ sum_by (λ (f : Flight C). f.size) (take p.number fs)
    pub ends : HoldsAt (λ (f : Flight C). p.end ≡ p.begin + f.size) fs p.number
    pub classed : HoldsAt (λ (f : Flight C). same f.class class ≡ true) fs p.number
