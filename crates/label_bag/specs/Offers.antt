-- What an offer to a bag answers.
use Rattle.std.specs.Prelude.{◌≡◌, ℕ, ◌<◌, Bool, true, List, ◌∷◌, length, Result, Ok, Err}
use Rattle.std.specs.List.{HoldsAt}
use Rattle.std.specs.List.Sorted.{IsPermutation}
use Rattle.label_bag.specs.Bags.{IsUncovered, not_above}
use Rattle.label_bag.specs.declared.bag.Offered.{Offered}
use Rattle.label_bag.specs.declared.bag.Offered.TheVariants.{Kept, Covered}

-- a fact for an offer that was covered by member i
abbrev pub IfCovered : {E : Type 0} → Result Offered E → (ℕ → Type 0) → Type 0
IfCovered (Ok (Covered i)) P = P i
IfCovered (Ok Kept) P = Unit {0}
IfCovered (Err e) P = Unit {0}

-- a fact for an offer that was kept
abbrev pub OnKept : {E : Type 0} → Result Offered E → Type 0 → Type 0
OnKept (Ok Kept) P = P
OnKept (Ok (Covered i)) P = Unit {0}
OnKept (Err e) P = Unit {0}

module _ {X : Type 0} (at_most : X → X → Bool) where
  -- member i is at most the label, and the members are the same
  pub record IsCoveredBy (old : List X) (i : ℕ) (label : X) (new : List X) : Type 0 where
    pub within : i < length old
    pub covering : HoldsAt (λ m. at_most m label ≡ true) old i
    pub unchanged : new ≡ old

  -- no member was at most the label, and the members are now the label and those that it is not at most
  pub record TakesIn (old : List X) (label : X) (new : List X) : Type 0 where
    pub uncovered : IsUncovered at_most old label
    pub members : IsPermutation (label ∷ not_above at_most label old) new

  -- the label came back for want of room: no member was at most it, and the members are the same
  pub record IsHandedBack (old : List X) (spare : ℕ) (label back : X) (new : List X) : Type 0 where
    pub same : back ≡ label
    pub uncovered : IsUncovered at_most old label
    pub unchanged : new ≡ old
    pub full : spare ≡ 0
