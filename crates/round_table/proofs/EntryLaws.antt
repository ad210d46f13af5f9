-- The entries that are read off labels.
use Rattle.std.proofs.Common.{◌≡◌, refl, ◌∙◌, ap, subst, ℕ, zero, suc, ◌+◌, ◌-◌, ◌<◌, ◌⊎◌, inl, inr, true, false, List, [], ◌∷◌, ◌++◌, length, get_or, arith}
use Rattle.std.specs.Prelude.{Option, Some, None, IsSome, option_map, option_and_then, slice_get}
use Rattle.std.proofs.lemmas.Bool.{cases_Bool}
use Rattle.std.proofs.lemmas.Option.{slice_get-map, slice_get-get_or, slice_get_within}
use Rattle.feed_rows.specs.declared.journeys.Ride.{Ride}
use Rattle.feed_rows.specs.declared.states.Move.{Move}
use Rattle.feed_rows.specs.FareSteps.{is_whole}
use Rattle.feed_rows.specs.PartialJourneys.{PartialJourney}
use Rattle.feed_rows.specs.declared.fares.Entry.{Entry}
use Rattle.feed_rows.specs.RoundTables.{Final as KeptFinal, RoundTable, with_ride, traced, entry_of_final, entries_of}
use Rattle.plain_laws.specs.Plain.{collect_below}
use Rattle.plain_laws.proofs.Laws.{collect_below_more, collect_below_tells}
use Rattle.fare_tariff.specs.declared.fare.Fare.{Fare}
use Rattle.round_terms.specs.declared.finals.Final.{Final}
use Rattle.round_table.specs.Finals.{final_of, finals_of}
use Rattle.round_terms.specs.declared.label.Label.{Label}
use Rattle.round_table.specs.Labels.{label_of, labels_of}

-- a label that leads back leads to its parent, which leads back by one ride less
pub traced_parent : (labels : List (Label Fare Move)) (rides number : ℕ) (label : Label Fare Move) (parent : ℕ) (ride : Ride) (taken : Move) →
    (rides ≡ 0 → ⊥) → slice_get labels number ≡ Some label → label.parent ≡ Some parent → label.ride ≡ Some ride →
    label.taken ≡ Some taken →
    IsSome (traced (labels_of labels) rides number) → IsSome (traced (labels_of labels) (rides - 1) parent)
traced_parent labels zero number label parent ride taken some at p r t known = absurd (some refl)
traced_parent labels (suc n) number label parent ride taken some at p r t known = by (cases_Bool (is_whole taken))
  where
    there : slice_get (labels_of labels) number ≡ Some (label_of label)
    there = slice_get-map label_of labels number ∙ ap (option_map label_of) at

    traced_some : (o : Option PartialJourney) → IsSome (option_map (λ part. with_ride part ride taken) o) → IsSome o
    traced_some None nothing = nothing
    traced_some (Some part) there_is = there_is

    by : (is_whole taken ≡ true) ⊎ (is_whole taken ≡ false) → IsSome (traced (labels_of labels) (suc n - 1) parent)
    by (inl whole) =
        let is : traced (labels_of labels) (suc n) number ≡ option_map (λ part. with_ride part ride taken)
        (traced (labels_of labels) n parent) = rw (there, p, r, t, whole) refl in
        let less : n ≡ suc n - 1 = omega arith in
        subst (λ (k : ℕ). IsSome (traced (labels_of labels) k parent)) less
        (traced_some (traced (labels_of labels) n parent) (subst IsSome is known))
    by (inr broken) = absurd (let no : false ≡ true = subst IsSome nothing known in cc)
      where
        nothing : traced (labels_of labels) (suc n) number ≡ None
        nothing = rw (there, p, r, t, broken) refl

-- so it has a parent, a ride and a move
module _ (labels : List (Label Fare Move)) (number : ℕ) (label : Label Fare Move) (at : slice_get labels number ≡ Some label) where
  there : slice_get (labels_of labels) number ≡ Some (label_of label)
  there = slice_get-map label_of labels number ∙ ap (option_map label_of) at

  pub has_parent : (rides : ℕ) → (rides ≡ 0 → ⊥) → label.parent ≡ None → IsSome
      (traced (labels_of labels) rides number) → ⊥
  has_parent zero some p known = some refl
  has_parent (suc n) some p known =
      let nothing : traced (labels_of labels) (suc n) number ≡ None = rw (there, p) refl in
      let wrong : false ≡ true = subst IsSome nothing known in absurd (cc)

  pub has_ride : (rides parent : ℕ) → (rides ≡ 0 → ⊥) → label.parent ≡ Some parent → label.ride ≡ None →
      IsSome (traced (labels_of labels) rides number) → ⊥
  has_ride zero parent some p r known = some refl
  has_ride (suc n) parent some p r known =
      let nothing : traced (labels_of labels) (suc n) number ≡ None = rw (there, p, r) refl in
      let wrong : false ≡ true = subst IsSome nothing known in absurd (cc)

  pub has_move : (rides parent : ℕ) (ride : Ride) → (rides ≡ 0 → ⊥) → label.parent ≡ Some parent →
      label.ride ≡ Some ride → label.taken ≡ None →
      IsSome (traced (labels_of labels) rides number) → ⊥
  has_move zero parent ride some p r t known = some refl
  has_move (suc n) parent ride some p r t known =
      let nothing : traced (labels_of labels) (suc n) number ≡ None = rw (there, p, r, t) refl in
      let wrong : false ≡ true = subst IsSome nothing known in absurd (cc)

-- the partial journey of a label is that of its parent with its ride
pub traced_more : (labels : List (Label Fare Move)) (rides number : ℕ) (label : Label Fare Move) (parent : ℕ) (ride : Ride) (taken : Move)
    (part longer : PartialJourney) →
    (rides ≡ 0 → ⊥) → slice_get labels number ≡ Some label → label.parent ≡ Some parent → label.ride ≡ Some ride →
    label.taken ≡ Some taken →
    IsSome (traced (labels_of labels) rides number) → traced (labels_of labels) (rides - 1) parent ≡ Some part →
    longer ≡ with_ride part ride taken →
    traced (labels_of labels) rides number ≡ Some longer
traced_more labels zero number label parent ride taken part longer some at p r t known before is = absurd (some refl)
traced_more labels (suc n) number label parent ride taken part longer some at p r t known before is =
    by (cases_Bool (is_whole taken))
  where
    there : slice_get (labels_of labels) number ≡ Some (label_of label)
    there = slice_get-map label_of labels number ∙ ap (option_map label_of) at

    earlier : traced (labels_of labels) n parent ≡ Some part
    earlier = subst (λ (k : ℕ). traced (labels_of labels) k parent ≡ Some part) (omega arith) before

    by : (is_whole taken ≡ true) ⊎ (is_whole taken ≡ false) → traced (labels_of labels) (suc n) number ≡ Some longer
    by (inl whole) = rw (there, p, r, t, whole, earlier, is) refl
    by (inr broken) = absurd (let no : false ≡ true = subst IsSome nothing known in cc)
      where
        nothing : traced (labels_of labels) (suc n) number ≡ None
        nothing = rw (there, p, r, t, broken) refl

-- a place within a list has an item
some_within : {X : Type 0} (xs : List X) (i : ℕ) → i < length xs → IsSome (slice_get xs i)
some_within [] i lt = absurd (omega (arith, lt))
some_within (x ∷ xs) zero lt = refl
some_within (x ∷ xs) (suc i) lt = some_within xs i (omega (arith, lt))

-- where all finals have entries, each has
pub entry_given : (table : RoundTable) (n : ℕ) (final : KeptFinal) → IsSome (entries_of table) →
    slice_get table.finals n ≡ Some final →
    IsSome (entry_of_final table final)
entry_given table n final some at = by (entries_of table) refl some
  where
    by : (o : Option (List Entry)) → entries_of table ≡ o → IsSome o → IsSome (entry_of_final table final)
    by None is none = absurd (let no : false ≡ true = none in cc)
    by (Some entries) is known =
        let all = collect_below_tells (length table.finals) (λ i. option_and_then (entry_of_final table)
        (slice_get table.finals i)) entries is in
        let lt = slice_get_within table.finals n final at in
        let long = all.length_is in
        subst IsSome (all.items n lt ∙ ap (option_and_then (entry_of_final table)) at)
        (some_within entries n (omega (arith, lt, long)))

-- one entry more
pub entries_more : (table : RoundTable) (finals : List Final) (n : ℕ) (d : Final) (entries : List Entry)
    (entry : Entry) → n < length finals →
    collect_below n (λ i. option_and_then (entry_of_final table) (slice_get (finals_of finals) i)) ≡ Some entries →
    entry_of_final table (final_of (get_or finals n d)) ≡ Some entry →
    collect_below (n + 1) (λ i. option_and_then (entry_of_final table) (slice_get (finals_of finals) i)) ≡ Some
    (entries ++ entry ∷ [])
entries_more table finals n d entries entry lt before is =
    collect_below_more n _ entries entry before
    (ap (option_and_then (entry_of_final table)) (slice_get-map final_of finals n ∙ ap (option_map final_of)
    (slice_get-get_or finals n d lt)) ∙ is)
