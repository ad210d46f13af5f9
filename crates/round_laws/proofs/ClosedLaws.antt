-- The table of a search that is to be whole: what it lacks of partial journeys is outdone by a final, so all that they
-- lead to is found; and it shows by itself that it is so, since it is closed under steps.
use Rattle.std.proofs.Common.{◌≡◌, refl, sym, ◌∙◌, ap, subst, ℕ, ◌<◌, ◌≤◌, ⊎_elim, inl, inr, true, List, take, arith}
use Rattle.std.specs.Prelude.{Some, None}
use Rattle.std.proofs.lemmas.Option.{same_Some, none-some, slice_get-get_or}
use Rattle.feed_rows.specs.declared.journeys.Query.{Query}
use Rattle.feed_rows.specs.ClosedTable.{IsOutdone, IsClosed, HasStarts, HasEarlierParents, HasBareStarts, IsClosedTable}
use Rattle.feed_rows.specs.FeedRows.{FeedRows}
use Rattle.feed_rows.specs.PartialJourneys.{PartialJourney, LabelFacts}
use Rattle.feed_rows.specs.RoundTables.{Label, RoundTable}
use Rattle.feed_rows.specs.SoundFeed.{IsSoundFeed}
use Rattle.feed_rows.specs.SoundTable.{IsBettered, CoversJourneys}
use Rattle.plain_laws.proofs.Laws.{All-slice_get}
use Rattle.search_laws.specs.Cuts.{IsCutBy, MayLack}
use Rattle.search_laws.specs.Links.{AreClosed, AreLinked, CoversStarts, CoversSteps, IsLinked}
use Rattle.search_laws.proofs.CoverLaws.{all_served}
use Rattle.search_laws.proofs.LinkLaws.{earlier}
use Rattle.round_laws.specs.Futility.{outdoes}
use Rattle.round_laws.specs.LabelSteps.{HasFacts, start_facts, ways}
use Rattle.round_laws.specs.LinkedTables.{IsFound, told}
use Rattle.round_laws.proofs.AnswerLaws.{found_upward}
use Rattle.round_laws.proofs.CompletionLaws.{leads_of_completion, step_of_ride}
use Rattle.round_laws.proofs.CoverLaws.{lawful}
use Rattle.round_laws.proofs.OutdoneLaws.{outdone_cuts, outdone_up, outdone_leads}
use Rattle.round_laws.proofs.TableLaws.{is_reached, is_traced}

module _ (feed : FeedRows) (query : Query) (table : RoundTable) where
  -- what a triple that is found outdoes a final outdoes
  outdone_by_final : (a : LabelFacts) → IsCutBy (outdoes feed query) (IsFound table.finals) a → IsOutdone feed query table a
  outdone_by_final a lack =
      let final = lack.1 in
      (final.0, final.1, final.2, final.3, outdone_up feed query final.1.triple lack.0 a final.4 lack.2)

  -- and it betters all that completes a partial journey with such facts
  bettered_by_final : (part : PartialJourney) (a : LabelFacts) → IsSoundFeed feed → HasFacts feed query part a →
      IsOutdone feed query table a → IsBettered feed query table part
  bettered_by_final part a sound has final = (
    final.0,
    final.1,
    final.2,
    final.3,
    λ triple completes.
        let l = leads_of_completion feed query part a has triple sound completes in
        outdone_leads feed query final.1.triple l.0 a triple sound final.4 l.1,
  )

module _ (feed : FeedRows) (query : Query) (table : RoundTable) (sound : IsSoundFeed feed)
    (linked : AreLinked (ways feed query) told table.labels) (starts : CoversStarts (ways feed query) told table.labels)
    (closed : AreClosed (ways feed query) told
    (MayLack (ways feed query) (outdoes feed query) true (IsFound table.finals)) table.labels) where
  -- each partial journey is covered, or what it leads to is found
  pub covers_journeys : CoversJourneys feed query table
  covers_journeys part facts partial is =
      let has : HasFacts feed query part facts = record { partial = partial; facts = is } in
      ⊎_elim inl
      (λ lack. inr (bettered_by_final feed query table part facts sound has
      (outdone_by_final feed query table facts lack)))
      (all_served (ways feed query) (lawful feed query) told (outdoes feed query) (outdone_cuts feed query sound)
      (IsFound table.finals) (found_upward feed query table.finals) true table.labels linked starts closed facts.rides facts
      (is_reached feed query part facts has))

  steps_closed : IsClosed feed query table
  steps_closed number label part ride taken facts is traced_is partial has_is =
      let t = is_traced feed query table.labels number label linked is in
      let has = subst (λ (p : PartialJourney). HasFacts feed query p label.facts)
      (same_Some t.part part (sym t.is ∙ traced_is)) t.has in
      let step =
      step_of_ride feed query part label.facts has ride taken facts (record { partial = partial; facts = has_is }) in
      let on =
      All-slice_get
      (λ (l : Label). CoversSteps (ways feed query) told
      (MayLack (ways feed query) (outdoes feed query) true (IsFound table.finals)) l.facts table.labels)
      table.labels number label is closed in
      ⊎_elim inl (λ lack. inr (outdone_by_final feed query table facts lack)) (on ride step.0 facts step.1)

  has_starts : HasStarts feed query table
  has_starts stop stands =
      let some = starts (start_facts query stop) (stands, refl) in
      let is = slice_get-get_or table.labels some.0 some.1 some.2 ∙ ap Some some.3 in (
        some.0,
        some.1,
        some.2,
        some.3,
        (some.4.stop, no_ride (take some.0 table.labels) some.1 (linked some.0 some.1 is) some.4.rides),
      )
    where
      no_ride : (before : List Label) (label : Label) → IsLinked (ways feed query) told before label → label.facts.rides ≤ 0 →
          label.ride ≡ None
      no_ride before label (inl start) few = start.begins.ride
      no_ride before label (inr next) few =
          let more = ap (λ (a : LabelFacts). a.rides) next.step.next in absurd (omega (arith, few, more))

  earlier_parents : HasEarlierParents table
  earlier_parents number parent label is has = by (linked number label is)
    where
      by : IsLinked (ways feed query) told (take number table.labels) label → parent < number
      by (inl start) = absurd (none-some parent (sym start.begins.parent ∙ has))
      by (inr next) =
          let before = earlier table.labels number next.number next.before next.is in
          subst (λ (n : ℕ). n < number) (same_Some next.number parent (sym next.goes.parent ∙ has)) before.0

  bare_starts : HasBareStarts table
  bare_starts number label is none = by (linked number label is)
    where
      by : IsLinked (ways feed query) told (take number table.labels) label → (label.parent ≡ None) × (label.taken ≡ None)
      by (inl start) = (start.begins.parent, start.begins.taken)
      by (inr next) = absurd (none-some next.by (sym none ∙ next.goes.ride))

  -- the table is closed
  pub closed_table : IsClosedTable feed query table
  closed_table = record {
    closed = steps_closed;
    starts = has_starts;
    earlier = earlier_parents;
    bare = bare_starts;
  }
