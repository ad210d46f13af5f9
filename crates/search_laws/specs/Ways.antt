-- How a search goes on, whatever it looks for: from facts of a way by steps to facts of longer ways, and what these end in.
use Rattle.std.specs.Prelude.{◌≡◌, ℕ, zero, suc, Bool, true}

-- facts F of ways; steps by an R, each in one of the manners M; and ends at an E, with a result T
pub record Ways (F R M E T : Type 0) : Type 1 where
  -- a way may begin with such facts
  pub Starts : F → Type 0
  -- the step leads from the one to the other
  pub Steps : F → R → M → F → Type 0
  -- a way with such facts ends there in the result
  pub Ends : F → E → T → Type 0
  -- the one is as good as the other, whatever comes after
  pub Covers : F → F → Type 0
  -- ways have such facts
  pub IsSound : F → Type 0
  -- the one result is as good as the other
  pub at_most : T → T → Bool

-- ---- what makes a search right

-- by the same R a step leads from the facts to what covers the others
pub record IsFollowed {F R M E T : Type 0} (w : Ways F R M E T) (a : F) (by : R) (other : F) : Type 0 where
  pub move : M
  pub b : F
  pub step : w.Steps a by move b
  pub covers : w.Covers b other

-- the facts end at the same place in what is as good as the result
pub record EndsNoWorse {F R M E T : Type 0} (w : Ways F R M E T) (a : F) (last : E) (worse : T) : Type 0 where
  pub result : T
  pub end : w.Ends a last result
  pub below : w.at_most result worse ≡ true

-- what covers facts follows each of their steps, and ends no worse
pub record AreLawful {F R M E T : Type 0} (w : Ways F R M E T) : Type 0 where
  pub starts : (a : F) → w.Starts a → w.IsSound a
  pub steps : (a b : F) (by : R) (move : M) → w.Steps a by move b → w.IsSound b
  pub onward : (a b c : F) → w.Covers a b → w.Covers b c → w.Covers a c
  pub follow : (a other : F) (by : R) (move : M) (next : F) → w.IsSound a → w.IsSound other → w.Covers a other →
      w.Steps other by move next → IsFollowed w a by next
  pub ends : (a other : F) (last : E) (worse : T) → w.IsSound a → w.IsSound other → w.Covers a other →
      w.Ends other last worse → EndsNoWorse w a last worse

-- ---- where ways lead

-- so many steps lead from a start to such facts
abbrev pub IsReached : {F R M E T : Type 0} → Ways F R M E T → ℕ → F → Type 0
IsReached w zero b = w.Starts b
IsReached {F} {R} {M} w (suc n) b = (a : F) × (by : R) × (move : M) × IsReached w n a × w.Steps a by move b

-- so many steps lead from such facts to an end with the result
abbrev pub LeadsBy : {F R M E T : Type 0} → Ways F R M E T → ℕ → F → T → Type 0
LeadsBy {F} {R} {M} {E} w zero a result = (last : E) × w.Ends a last result
LeadsBy {F} {R} {M} w (suc n) a result = (by : R) × (move : M) × (b : F) × w.Steps a by move b × LeadsBy w n b result

-- where one result is found, so is each that it is as good as
abbrev pub IsUpward : {F R M E T : Type 0} → Ways F R M E T → (T → Type 0) → Type 0
IsUpward {F} {R} {M} {E} {T} w Found = (a b : T) → w.at_most a b ≡ true → Found a → Found b
