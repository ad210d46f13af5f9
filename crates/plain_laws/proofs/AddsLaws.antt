-- Laws of what calls add: parts one after another, a part said otherwise, and one that has nothing.
use Rattle.std.proofs.Common.{⊎_elim, inr, ◌⊎◌, List}
use Rattle.plain_laws.specs.Adds.{Adds, OnlyBesides}

-- one part after another
pub adds_more : {S : Type 0} {X : Type 0} {Right : S → S → Type 0} {Covers : S → X → Type 0} {Part More Whole : X → Type 0}
    {old mid new : S} → (Right old mid → Right mid new → Right old new) → Adds Right Covers Part old mid →
    Adds Right Covers More mid new → ((x : X) → Whole x → Part x ⊎ More x) → Adds Right Covers Whole old new
adds_more on a b split = record {
  right = on a.right b.right;
  still = λ x covered. b.still x (a.still x covered);
  all = λ x whole. ⊎_elim (λ part. b.still x (a.all x part)) (λ more. b.all x more) (split x whole);
}

-- the same part, said otherwise
pub adds_same : {S : Type 0} {X : Type 0} {Right : S → S → Type 0} {Covers : S → X → Type 0} {Part Whole : X → Type 0}
    {old new : S} → Adds Right Covers Part old new → ((x : X) → Whole x → Part x) → Adds Right Covers Whole old new
adds_same a part = record {
  right = a.right;
  still = a.still;
  all = λ x whole. a.all x (part x whole);
}

-- a part that has nothing
pub adds_none : {S : Type 0} {X : Type 0} {Right : S → S → Type 0} {Covers : S → X → Type 0} {Part : X → Type 0}
    {value : S} → Right value value → ((x : X) → Part x → ⊥) → Adds Right Covers Part value value
adds_none right never = record {
  right = right;
  still = λ x covered. covered;
  all = λ x part. absurd (never x part);
}

-- what a list has besides, one list after another
pub besides_on : {X : Type 0} (P : X → Type 0) (old mid new : List X) → OnlyBesides P old mid → OnlyBesides P mid new →
    OnlyBesides P old new
besides_on P old mid new a b x at = ⊎_elim (λ before. a x before) (λ own. inr own) (b x at)
