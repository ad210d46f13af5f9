-- What a search needn't look at, since all that it leads to is found.
use Rattle.std.specs.Prelude.{◌≡◌, ℕ, Bool, true, false}
use Rattle.search_laws.specs.Ways.{Ways, LeadsBy}

-- whatever steps lead to from such facts is found
abbrev pub IsFutile : {F R M E T : Type 0} → Ways F R M E T → (T → Type 0) → F → Type 0
IsFutile {F} {R} {M} {E} {T} w Found a = (n : ℕ) (result : T) → LeadsBy w n a result → Found result

-- a result cuts facts off: it is as good as all that they lead to, and cuts off what goes on from them and what they cover
pub record AreCuts {F R M E T : Type 0} (w : Ways F R M E T) (Cuts : T → F → Type 0) : Type 0 where
  pub after : (result : T) (a b : F) (by : R) (move : M) → w.Steps a by move b → Cuts result a → Cuts result b
  pub below : (result : T) (a b : F) → w.Covers a b → Cuts result a → Cuts result b
  pub leads : (result : T) (n : ℕ) (a : F) (other : T) → Cuts result a → LeadsBy w n a other → w.at_most result other ≡ true

-- some result that is found cuts such facts off
abbrev pub IsCutBy : {F T : Type 0} → (T → F → Type 0) → (T → Type 0) → F → Type 0
IsCutBy {F} {T} Cuts Found a = (result : T) × Found result × Cuts result a

-- a search that is to be whole may lack what is cut off, and another whatever is futile
abbrev pub MayLack : {F R M E T : Type 0} → Ways F R M E T → (T → F → Type 0) → Bool → (T → Type 0) → F → Type 0
MayLack w Cuts true Found a = IsCutBy Cuts Found a
MayLack w Cuts false Found a = IsFutile w Found a
