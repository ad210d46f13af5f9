-- Labels that a search by rounds keeps: those in its bags, and those that it lists by number; and what a round adds to them.
use Rattle.std.specs.Prelude.{◌≡◌, ◌≢◌, ◌⊎◌, ℕ, ◌<◌, ◌≤◌, ◌==◌, Bool, true, false, List, [], ◌∷◌, filter, All, AllPairs, Contains}
use Rattle.label_bag.specs.Bags.{AreApart, Gathers}
use Rattle.search_laws.specs.Links.{AreClosed, AreLinked, CoversStarts, CoversSteps, IsLinked, Told}
use Rattle.search_laws.specs.Ways.{Ways}

-- how a search goes on, what its labels L tell, a test of which covers which, and which results cut facts off
pub record Search (L F R M E T : Type 0) : Type 1 where
  pub ways : Ways F R M E T
  pub told : Told L F R M
  pub covers : L → L → Bool
  pub Cuts : T → F → Type 0

-- the test tells which labels cover which
pub record IsCoverTest {L F R M E T : Type 0} (s : Search L F R M E T) : Type 0 where
  pub itself : (x : L) → s.covers x x ≡ true
  pub tells : (x y : L) → s.covers x y ≡ true → s.ways.Covers (s.told.facts x) (s.told.facts y)
  pub fewer : (x y : L) → s.covers x y ≡ true → s.told.count x ≤ s.told.count y

-- the label was taken in, and labels that it doesn't cover stay
pub record Takes {L : Type 0} (covers : L → L → Bool) (old : List L) (label : L) (new : List L) : Type 0 where
  pub gathers : Gathers covers old (label ∷ []) new
  pub keeps : (x : L) → Contains old x → covers label x ≡ false → Contains new x

-- the labels of so many steps
abbrev pub gathered : {L : Type 0} → (L → ℕ) → ℕ → List L → List L
gathered count_of count labels = filter (λ x. count_of x == count) labels

-- ---- one round

-- some label covers such facts
abbrev pub IsHeldBelow : {L F : Type 0} → (F → F → Type 0) → (L → F) → List L → F → Type 0
IsHeldBelow {L} Covers facts_of bags b = (x : L) × Contains bags x × Covers (facts_of x) b

-- no end of one of these labels cuts the label off
abbrev pub IsUncut : {L F R M E T : Type 0} → Search L F R M E T → List L → L → Type 0
IsUncut {L} {F} {R} {M} {E} {T} s labels x =
    (y : L) → Contains labels y → (last : E) (result : T) → s.ways.Ends (s.told.facts y) last result →
    s.Cuts result (s.told.facts x) → ⊥

-- the label fits, is of so many steps, begins a way or goes on from one of these, and none of their ends cuts it off
pub record IsFresh {L F R M E T : Type 0} (s : Search L F R M E T) (labels : List L) (count : ℕ) (x : L) : Type 0 where
  pub fits : s.told.Fits x
  pub counts : s.told.count x ≡ count
  pub linked : IsLinked s.ways s.told labels x
  pub uncut : IsUncut s labels x

-- what was covered still is, and so are all facts of this part that may not be lacking; labels of fewer steps stayed, and new ones
-- are of so many
pub record Spreads {L F R M E T : Type 0} (s : Search L F R M E T) (Lacking : F → Type 0) (labels : List L) (count : ℕ)
    (Part : F → Type 0) (old new : List L) : Type 0 where
  pub still : (b : F) → IsHeldBelow s.ways.Covers s.told.facts old b → IsHeldBelow s.ways.Covers s.told.facts new b
  pub kept : (x : L) → Contains old x → s.told.count x < count → Contains new x
  pub right : (x : L) → Contains new x → Contains old x ⊎ IsFresh s labels count x
  pub all : (b : F) → Part b → IsHeldBelow s.ways.Covers s.told.facts new b ⊎ Lacking b

-- a step leads there from a label of so many steps
abbrev pub StepsFrom : {L F R M E T : Type 0} → Search L F R M E T → List L → ℕ → F → Type 0
StepsFrom {L} {F} {R} {M} s labels count b =
    (x : L) × Contains labels x × (s.told.count x ≡ count) × ((by : R) × (move : M) × s.ways.Steps (s.told.facts x) by move b)

-- ---- all rounds

-- no end of a label of fewer steps cuts one of the labels off
abbrev pub AreUncut : {L F R M E T : Type 0} → Search L F R M E T → List L → Type 0
AreUncut {L} {F} {R} {M} {E} {T} s labels =
    (x y : L) → Contains labels x → Contains labels y → s.told.count y < s.told.count x → (last : E) (result : T) →
    s.ways.Ends (s.told.facts y) last result → s.Cuts result (s.told.facts x) → ⊥

-- the labels are those in the bags, each once; each fits, is of fewer steps than so many, begins a way or goes on from an earlier one,
-- and isn't cut off by an end of one of fewer steps
pub record AreStored {L F R M E T : Type 0} (s : Search L F R M E T) (count : ℕ) (labels bags : List L) : Type 0 where
  pub listed : (x : L) → Contains bags x → Contains labels x
  pub held : (x : L) → Contains labels x → Contains bags x
  pub fit : All s.told.Fits labels
  pub few : All (λ x. s.told.count x < count) labels
  pub linked : AreLinked s.ways s.told labels
  pub once : AllPairs (λ a b. a ≢ b) labels
  pub uncut : AreUncut s labels

-- each step from a label of fewer steps than so many is covered, or leads to what may be lacking
abbrev pub AreClosedTo : {L F R M E T : Type 0} → Search L F R M E T → (F → Type 0) → ℕ → List L → Type 0
AreClosedTo {L} s Lacking count labels =
    (x : L) → Contains labels x → s.told.count x < count → CoversSteps s.ways s.told Lacking (s.told.facts x) labels

-- the labels of all rounds: they cover the starts, and each step from each of them but what may be lacking; none covers another, and
-- none is cut off by an end of one of fewer steps
pub record AreWhole {L F R M E T : Type 0} (s : Search L F R M E T) (Lacking : F → Type 0) (limit : ℕ) (labels : List L) : Type 0 where
  pub linked : AreLinked s.ways s.told labels
  pub starts : CoversStarts s.ways s.told labels
  pub closed : AreClosed s.ways s.told Lacking labels
  pub apart : AreApart s.covers labels
  pub few : All (λ x. s.told.count x ≤ limit) labels
  pub fit : All s.told.Fits labels
  pub uncut : AreUncut s labels
