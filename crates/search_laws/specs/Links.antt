-- Labels that a search keeps of ways: where each comes from, and what they cover.
use Rattle.std.specs.Prelude.{◌≡◌, ◌⊎◌, ℕ, List, take, slice_get, All, Any, Some}
use Rattle.search_laws.specs.Ways.{Ways}

-- what a label L tells: the facts of its way; of how many steps that is; that the way begins there; and that it goes on from the label
-- with a number by a step. Fits is what else a search keeps true of each of its labels
pub record Told (L F R M : Type 0) : Type 1 where
  pub facts : L → F
  pub count : L → ℕ
  pub Fits : L → Type 0
  pub Begins : L → Type 0
  pub GoesOn : L → ℕ → R → M → Type 0

-- labels K that are kept as an L, which tells what they do
abbrev pub told_as : {K L F R M : Type 0} → (K → L) → (K → Type 0) → Told L F R M → Told K F R M
told_as {K} view Fits told = record {
  facts = λ x. told.facts (view x);
  count = λ x. told.count (view x);
  Fits = Fits;
  Begins = λ x. told.Begins (view x);
  GoesOn = λ x. told.GoesOn (view x);
}

-- ---- where labels come from

-- the label begins a way
pub record IsStart {L F R M E T : Type 0} (w : Ways F R M E T) (told : Told L F R M) (label : L) : Type 0 where
  pub starts : w.Starts (told.facts label)
  pub begins : told.Begins label

-- the label goes on from one of these
pub record IsNext {L F R M E T : Type 0} (w : Ways F R M E T) (told : Told L F R M) (labels : List L) (label : L) : Type 0 where
  pub number : ℕ
  pub before : L
  pub is : slice_get labels number ≡ Some before
  pub by : R
  pub move : M
  pub goes : told.GoesOn label number by move
  pub step : w.Steps (told.facts before) by move (told.facts label)

-- either
abbrev pub IsLinked : {L F R M E T : Type 0} → Ways F R M E T → Told L F R M → List L → L → Type 0
IsLinked w told labels label = IsStart w told label ⊎ IsNext w told labels label

-- each label begins a way or goes on from an earlier one
abbrev pub AreLinked : {L F R M E T : Type 0} → Ways F R M E T → Told L F R M → List L → Type 0
AreLinked {L} w told labels =
    (number : ℕ) (label : L) → slice_get labels number ≡ Some label → IsLinked w told (take number labels) label

-- ---- what labels cover

-- some label covers such facts
abbrev pub IsCoveredBy : {L F R M E T : Type 0} → Ways F R M E T → Told L F R M → List L → F → Type 0
IsCoveredBy w told labels a = Any (λ label. w.Covers (told.facts label) a) labels

-- each start is covered
abbrev pub CoversStarts : {L F R M E T : Type 0} → Ways F R M E T → Told L F R M → List L → Type 0
CoversStarts {L} {F} w told labels = (a : F) → w.Starts a → IsCoveredBy w told labels a

-- each step from these facts is covered, or leads to facts that may be lacking
abbrev pub CoversSteps : {L F R M E T : Type 0} → Ways F R M E T → Told L F R M → (F → Type 0) → F → List L → Type 0
CoversSteps {L} {F} {R} {M} w told Lacking a labels =
    (by : R) (move : M) (b : F) → w.Steps a by move b → IsCoveredBy w told labels b ⊎ Lacking b

-- so is each step of each label
abbrev pub AreClosed : {L F R M E T : Type 0} → Ways F R M E T → Told L F R M → (F → Type 0) → List L → Type 0
AreClosed w told Lacking labels = All (λ label. CoversSteps w told Lacking (told.facts label) labels) labels
