-- Labels that begin ways or go on from earlier ones.
use Rattle.std.proofs.Common.{◌≡◌, sym, ◌∙◌, ap, subst, ℕ, zero, suc, ◌+◌, ◌-◌, ◌<◌, ◌≤◌, ◌⊎◌, inl, inr, ⊎_elim, List, [], ◌∷◌, ◌++◌, length, take, drop, take-append-drop, length-take, refl, arith}
use Rattle.std.specs.Prelude.{All, Some, map, option_map, slice_get}
use Rattle.std.proofs.lemmas.Bool.{cases_lt}
use Rattle.std.proofs.lemmas.List.{take-map}
use Rattle.std.proofs.lemmas.List.Elements.{All-map, All-weaker}
use Rattle.std.proofs.lemmas.Option.{slice_get-map, slice_get_within}
use Rattle.plain_laws.proofs.Laws.{All-slice_get, Contains-map, mapped_tells, slice_get-append_left, slice_get-append_right, slice_get-take, take_short}
use Rattle.search_laws.specs.Links.{AreClosed, AreLinked, CoversStarts, CoversSteps, IsCoveredBy, IsLinked, IsNext, IsStart, Told, told_as}
use Rattle.search_laws.specs.Ways.{AreLawful, Ways}

-- an earlier label of a list, by its place in the whole list
pub earlier : {X : Type 0} (xs : List X) (n i : ℕ) (x : X) → slice_get (take n xs) i ≡ Some x →
    (i < n) × (slice_get xs i ≡ Some x)
earlier {X} xs n i x is =
    let within = slice_get_within (take n xs) i x is in
    let short = length-take n xs in (
      omega (arith, within, short),
      ap (λ (ys : List X). slice_get ys i) (sym (take-append-drop n xs))
          ∙ slice_get-append_left (take n xs) (drop n xs) i within ∙ is,
    )

module _ {L F R M E T : Type 0} (w : Ways F R M E T) (told : Told L F R M) where
  -- ways have the facts of a linked label
  pub linked_sound : AreLawful w → (labels : List L) (label : L) → IsLinked w told labels label → w.IsSound (told.facts label)
  linked_sound lawful labels label (inl start) = lawful.starts (told.facts label) start.starts
  linked_sound lawful labels label (inr next) =
      lawful.steps (told.facts next.before) (told.facts label) next.by next.move next.step

  -- what goes on from one of these goes on from one of more
  pub linked_more : (labels more : List L) (x : L) →
      ((i : ℕ) (l : L) → slice_get labels i ≡ Some l → slice_get more i ≡ Some l) → IsLinked w told labels x →
      IsLinked w told more x
  linked_more labels more x longer (inl start) = inl start
  linked_more labels more x longer (inr next) =
      inr (record {
        number = next.number;
        before = next.before;
        is = longer next.number next.before next.is;
        by = next.by;
        move = next.move;
        goes = next.goes;
        step = next.step;
      })

  -- labels stay linked where such are added that go on from those before
  pub linked_append : (old new : List L) → AreLinked w told old → All (IsLinked w told old) new →
      AreLinked w told (old ++ new)
  linked_append old new linked fresh number label is = by (cases_lt number (length old))
    where
      before : (i : ℕ) (l : L) → slice_get (take number old) i ≡ Some l → slice_get (take number (old ++ new)) i ≡ Some l
      before i l at =
          let some = slice_get_within (take number old) i l at in
          let in_old = slice_get_within old i l (sym (slice_get-take number old i (short i some)) ∙ at) in
          slice_get-take number (old ++ new) i (short i some) ∙ slice_get-append_left old new i in_old
          ∙ sym (slice_get-take number old i (short i some)) ∙ at
        where
          short : (i : ℕ) → i < length (take number old) → i < number
          short i lt = let most = take_short number old in omega (arith, lt, most)

      all : length old ≤ number → (i : ℕ) (l : L) → slice_get old i ≡ Some l → slice_get (take number (old ++ new)) i ≡ Some l
      all le i l at =
          let lt = slice_get_within old i l at in
          slice_get-take number (old ++ new) i (omega (arith, lt, le)) ∙ slice_get-append_left old new i lt ∙ at

      by : (number < length old) ⊎ (length old ≤ number) → IsLinked w told (take number (old ++ new)) label
      by (inl lt) =
          linked_more (take number old) (take number (old ++ new)) label before
          (linked number label (sym (slice_get-append_left old new number lt) ∙ is))
      by (inr le) =
          linked_more old (take number (old ++ new)) label (all le)
          (All-slice_get (IsLinked w told old) new (number - length old) label
          (sym (ap (slice_get (old ++ new)) (omega (arith, le)) ∙ slice_get-append_right old new (number - length old)) ∙ is)
          fresh)

  -- what is so of each label that begins a way, and goes on from label to label, is so of all linked labels
  module _ (labels : List L) (linked : AreLinked w told labels) (Is : ℕ → L → Type 0)
      (begins : (number : ℕ) (label : L) → slice_get labels number ≡ Some label → IsStart w told label → Is number label)
      (goes_on : (number : ℕ) (label : L) → slice_get labels number ≡ Some label →
      (next : IsNext w told (take number labels) label) → Is next.number next.before → Is number label) where
    so_below : (bound number : ℕ) (label : L) → number < bound → slice_get labels number ≡ Some label → Is number label
    so_below zero number label lt is = absurd (omega (arith, lt))
    so_below (suc bound) number label lt is =
        by (λ next.
        let e = earlier labels number next.number next.before next.is in
        so_below bound next.number next.before (omega (arith, lt, e.0)) e.1) (linked number label is)
      where
        by : ((next : IsNext w told (take number labels) label) → Is next.number next.before) →
            IsLinked w told (take number labels) label → Is number label
        by before (inl start) = begins number label is start
        by before (inr next) = goes_on number label is next (before next)

    pub are_all : (number : ℕ) (label : L) → slice_get labels number ≡ Some label → Is number label
    are_all number label is = so_below (number + 1) number label (omega arith) is

-- ---- labels that are kept as others

module _ {K L F R M E T : Type 0} (w : Ways F R M E T) (view : K → L) (Fits : K → Type 0) (told : Told L F R M) where
  linked_view : (before : List K) (x : K) → IsLinked w (told_as view Fits told) before x →
      IsLinked w told (map view before) (view x)
  linked_view before x (inl start) = inl (record { starts = start.starts; begins = start.begins })
  linked_view before x (inr next) =
      inr (record {
        number = next.number;
        before = view next.before;
        is = slice_get-map view before next.number ∙ ap (option_map view) next.is;
        by = next.by;
        move = next.move;
        goes = next.goes;
        step = next.step;
      })

  -- they are linked as those are that they are kept as
  pub linked_as : (labels : List K) → AreLinked w (told_as view Fits told) labels → AreLinked w told (map view labels)
  linked_as labels linked number label is =
      let some = mapped_tells view (slice_get labels number) label (sym (slice_get-map view labels number) ∙ is) in
      subst (IsLinked w told (take number (map view labels))) some.2
      (subst (λ (before : List L). IsLinked w told before (view some.0)) (sym (take-map view number labels))
      (linked_view (take number labels) some.0 (linked number some.0 some.1)))

  -- they cover what those cover
  covered_as : (labels : List K) (a : F) → IsCoveredBy w (told_as view Fits told) labels a →
      IsCoveredBy w told (map view labels) a
  covered_as labels a some =
      let there = Contains-map view labels some.1 (some.0, some.2, some.3) in
      (there.0, view some.1, there.1, there.2, some.4)

  pub starts_as : (labels : List K) → CoversStarts w (told_as view Fits told) labels → CoversStarts w told (map view labels)
  starts_as labels starts a is = covered_as labels a (starts a is)

  pub closed_as : (Lacking : F → Type 0) (labels : List K) → AreClosed w (told_as view Fits told) Lacking labels →
      AreClosed w told Lacking (map view labels)
  closed_as Lacking labels closed =
      All-map (λ l. CoversSteps w told Lacking (told.facts l) (map view labels)) view labels
      (All-weaker (λ x. CoversSteps w (told_as view Fits told) Lacking (told.facts (view x)) labels)
      (λ x. CoversSteps w told Lacking (told.facts (view x)) (map view labels))
      (λ x steps by move b step. ⊎_elim (λ some. inl (covered_as labels b some)) inr (steps by move b step)) labels closed)
