-- Labels that cover the starts, and each step from each of them but for what may be lacking, cover whatever is reached but for that;
-- so all is found in which ways end.
use Rattle.std.proofs.Common.{◌≡◌, ◌∙◌, ap, ℕ, zero, suc, ◌⊎◌, inl, inr, ⊎_elim, Bool, List, take}
use Rattle.std.specs.Prelude.{Contains, Some, slice_get}
use Rattle.std.proofs.lemmas.Option.{slice_get-get_or}
use Rattle.plain_laws.proofs.Laws.{All-slice_get, Contains-slice_get}
use Rattle.search_laws.specs.Cuts.{AreCuts, MayLack}
use Rattle.search_laws.specs.Links.{AreClosed, AreLinked, CoversStarts, CoversSteps, IsCoveredBy, Told}
use Rattle.search_laws.specs.Ways.{AreLawful, IsReached, IsUpward, Ways}
use Rattle.search_laws.proofs.CutLaws.{lack_after, lack_below, lack_futile}
use Rattle.search_laws.proofs.LinkLaws.{linked_sound}

-- a label that covers such facts, by its number
pub record Coverer {L F R M E T : Type 0} (w : Ways F R M E T) (told : Told L F R M) (labels : List L) (a : F) : Type 0 where
  pub number : ℕ
  pub label : L
  pub is : slice_get labels number ≡ Some label
  pub covers : w.Covers (told.facts label) a

pub coverer : {L F R M E T : Type 0} (w : Ways F R M E T) (told : Told L F R M) (labels : List L) (a : F) →
    IsCoveredBy w told labels a → Coverer w told labels a
coverer w told labels a some = record {
  number = some.0;
  label = some.1;
  is = slice_get-get_or labels some.0 some.1 some.2 ∙ ap Some some.3;
  covers = some.4;
}

module _ {L F R M E T : Type 0} (w : Ways F R M E T) (lawful : AreLawful w) (told : Told L F R M) (Cuts : T → F → Type 0)
    (cuts : AreCuts w Cuts) (Found : T → Type 0) (upward : IsUpward w Found) (whole : Bool) (labels : List L)
    (linked : AreLinked w told labels) (starts : CoversStarts w told labels)
    (closed : AreClosed w told (MayLack w Cuts whole Found) labels) where
  -- such facts are covered, or may be lacking
  abbrev pub IsServed : F → Type 0
  IsServed a = IsCoveredBy w told labels a ⊎ MayLack w Cuts whole Found a

  -- facts that a covered fact covers are covered
  covered_more : (a b : F) → IsCoveredBy w told labels a → w.Covers a b → IsCoveredBy w told labels b
  covered_more a b some covers =
      (some.0, some.1, some.2, some.3, lawful.onward (told.facts some.1) a b some.4 covers)

  sound_of : (number : ℕ) (label : L) → slice_get labels number ≡ Some label → w.IsSound (told.facts label)
  sound_of number label is = linked_sound w told lawful (take number labels) label (linked number label is)

  -- so is where a step leads from facts that a label covers
  step_of_label : (a b : F) (c : Coverer w told labels a) (by : R) (move : M) → w.Covers (told.facts c.label) a →
      w.IsSound a → w.Steps a by move b → IsServed b
  step_of_label a b c by move covers sound step =
      let f = lawful.follow (told.facts c.label) a by move b (sound_of c.number c.label c.is) sound covers step in
      let on =
      All-slice_get (λ (label : L). CoversSteps w told (MayLack w Cuts whole Found) (told.facts label) labels) labels
      c.number c.label c.is closed in
      ⊎_elim (λ some. inl (covered_more f.b b some f.covers))
      (λ lack. inr (lack_below w lawful Cuts cuts.below Found upward whole f.b b
      (lawful.steps (told.facts c.label) f.b by f.move f.step) (lawful.steps a b by move step) f.covers lack))
      (on by f.move f.b f.step)

  -- whatever goes on from such facts is such
  step_served : (a b : F) (by : R) (move : M) → IsServed a → w.IsSound a → w.Steps a by move b → IsServed b
  step_served a b by move (inl some) sound step =
      let c = coverer w told labels a some in step_of_label a b c by move c.covers sound step
  step_served a b by move (inr lack) sound step =
      inr (lack_after w lawful Cuts cuts Found upward whole a b by move step lack)

  -- ways have the facts that are reached
  pub reached_sound : (n : ℕ) (a : F) → IsReached w n a → w.IsSound a
  reached_sound zero a reached = lawful.starts a reached
  reached_sound (suc n) a reached = lawful.steps reached.0 a reached.1 reached.2 reached.4

  -- so are all that are reached
  pub all_served : (n : ℕ) (a : F) → IsReached w n a → IsServed a
  all_served zero a reached = inl (starts a reached)
  all_served (suc n) a reached =
      step_served reached.0 a reached.1 reached.2 (all_served n reached.0 reached.3)
      (reached_sound n reached.0 reached.3) reached.4

  -- where all is found in which labels end, so is all in which ways end
  module _ (ended : (label : L) (last : E) (result : T) → Contains labels label → w.Ends (told.facts label) last result →
      Found result) where
    -- an end of facts that are covered is found
    covered_found : (a : F) (last : E) (result : T) → w.IsSound a → IsCoveredBy w told labels a → w.Ends a last result →
        Found result
    covered_found a last result sound some end =
        let c = coverer w told labels a some in
        let b = lawful.ends (told.facts c.label) a last result (sound_of c.number c.label c.is) sound c.covers end in
        upward b.result result b.below
        (ended c.label last b.result (Contains-slice_get labels c.number c.label c.is) b.end)

    pub each_found : (n : ℕ) (a : F) (last : E) (result : T) → IsReached w n a → w.Ends a last result → Found result
    each_found n a last result reached end =
        ⊎_elim (λ some. covered_found a last result (reached_sound n a reached) some end)
        (λ lack. lack_futile w lawful Cuts cuts Found upward whole a lack 0 result (last, end)) (all_served n a reached)
