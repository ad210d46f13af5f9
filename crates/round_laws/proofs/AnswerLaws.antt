-- What such labels end in is the exact answer.
use Rattle.std.proofs.Common.{◌≡◌, refl, sym, ◌∙◌, ap, subst, ℕ, ◌<◌, ⊎_elim, Bool, true, false, List, length, get_or, arith}
use Rattle.std.specs.Prelude.{Option, Some, slice_get, All, AllPairs, Any, IsTrue, option_and_then}
use Rattle.std.proofs.lemmas.Option.{same_Some, slice_get_within, slice_get-get_or}
use Rattle.feed_rows.specs.declared.fares.Entry.{Entry}
use Rattle.feed_rows.specs.declared.fares.Triple.{Triple}
use Rattle.feed_rows.specs.declared.journeys.Query.{Query}
use Rattle.feed_rows.specs.FeedRows.{FeedRows}
use Rattle.feed_rows.specs.JourneyEntries.{IsEntry, IsExactAnswer, CoversOffers}
use Rattle.feed_rows.specs.ParetoTriples.{at_most, is_before}
use Rattle.feed_rows.specs.PartialJourneys.{journey_to}
use Rattle.feed_rows.specs.RoundTables.{Final, RoundTable, traced, entry_of_final, entries_of}
use Rattle.feed_rows.specs.SoundFeed.{IsSoundFeed}
use Rattle.feed_rows.specs.SoundTable.{EndsExactly}
use Rattle.plain_laws.proofs.Laws.{All-slice_get, list_any-place, collect_below_some, collect_below_tells, IsCollected}
use Rattle.feed_laws.proofs.ExactLaws.{is_covered, exact_of_front, covers_offers}
use Rattle.feed_laws.proofs.ParetoLaws.{at_most-trans}
use Rattle.search_laws.specs.Cuts.{MayLack}
use Rattle.search_laws.specs.Links.{AreClosed, AreLinked, CoversStarts}
use Rattle.search_laws.specs.Ways.{IsUpward}
use Rattle.search_laws.proofs.CoverLaws.{each_found as reaches_found}
use Rattle.round_laws.specs.Futility.{outdoes}
use Rattle.round_laws.specs.LabelSteps.{ways}
use Rattle.round_laws.specs.LinkedTables.{AreFinals, IsFinal, IsFound, told}
use Rattle.round_laws.proofs.CoverLaws.{lawful}
use Rattle.round_laws.proofs.OutdoneLaws.{outdone_cuts}
use Rattle.round_laws.proofs.EndLaws.{entry_of_end, part_of_entry, end_of_entry}
use Rattle.round_laws.proofs.PartLaws.{item_at}
use Rattle.round_laws.proofs.TableLaws.{is_reached, is_traced}

-- the entry by which a final ends
record IsFinalEntry (feed : FeedRows) (query : Query) (table : RoundTable) (final : Final) : Type 0 where
  pub entry : Entry
  pub is : entry_of_final table final ≡ Some entry
  pub entry_is : IsEntry feed query entry
  pub triple : entry.triple ≡ final.triple

final_entry : (feed : FeedRows) (query : Query) (table : RoundTable) (final : Final) →
    AreLinked (ways feed query) told table.labels → IsFinal feed query table.labels final → IsFinalEntry feed query table final
final_entry feed query table final linked f =
    let t = is_traced feed query table.labels final.label f.label linked f.is in
    let known = ap (λ (n : ℕ). traced table.labels n final.label) f.end.rides ∙ t.is in
    record {
      entry = record { triple = final.triple; journey = journey_to final.last t.part; choice = t.part.choice };
      is = rw known refl;
      entry_is = entry_of_end feed query t.part f.label.facts final.last final.triple t.has f.end;
      triple = refl;
    }

module _ (feed : FeedRows) (query : Query) (table : RoundTable) (linked : AreLinked (ways feed query) told table.labels)
    (right : All (IsFinal feed query table.labels) table.finals) where
  -- the entry of the final at this place
  abbrev entry_at : ℕ → Option Entry
  entry_at i = option_and_then (entry_of_final table) (slice_get table.finals i)

  entry_given : (i : ℕ) (final : Final) → slice_get table.finals i ≡ Some final → IsFinalEntry feed query table final
  entry_given i final is =
      final_entry feed query table final linked
      (All-slice_get (IsFinal feed query table.labels) table.finals i final is right)

  -- all finals have entries
  pub entries_given : (entries : List Entry) × (entries_of table ≡ Some entries)
  entries_given = collect_below_some (length table.finals) entry_at (λ i lt.
      let final = item_at table.finals i lt in
      let e = entry_given i final.0 final.1 in
      (e.entry, ap (option_and_then (entry_of_final table)) final.1 ∙ e.is))

  module _ (entries : List Entry) (are : entries_of table ≡ Some entries) where
    collected : IsCollected (length table.finals) entry_at entries
    collected = collect_below_tells (length table.finals) entry_at entries are

    -- the entry at the place of a final is the one by which that ends
    entry_there : (i : ℕ) (final : Final) → slice_get table.finals i ≡ Some final →
        (entry : Entry) × (slice_get entries i ≡ Some entry) × IsEntry feed query entry × (entry.triple ≡ final.triple)
    entry_there i final is =
        let e = entry_given i final is in (
          e.entry,
          collected.items i (slice_get_within table.finals i final is)
              ∙ ap (option_and_then (entry_of_final table)) is ∙ e.is,
          e.entry_is,
          e.triple,
        )

    -- so all are entries of the query
    pub are_entries : All (IsEntry feed query) entries
    are_entries k d lt =
        let final = item_at table.finals k (omega (arith, lt, collected.length_is)) in
        let e = entry_there k final.0 final.1 in
        subst (IsEntry feed query) (same_Some _ _ (sym e.1 ∙ slice_get-get_or entries k d lt)) e.2

    -- with the triples of the finals
    same_triple : (k : ℕ) (d : Entry) (d' : Final) → k < length table.finals →
        (get_or table.finals k d').triple ≡ (get_or entries k d).triple
    same_triple k d d' lt =
        let e = entry_there k (get_or table.finals k d') (slice_get-get_or table.finals k d' lt) in
        sym e.3 ∙ ap (λ (x : Entry). x.triple)
        (same_Some _ _ (sym e.1 ∙ slice_get-get_or entries k d (omega (arith, lt, collected.length_is))))

    -- so what holds between the triples of finals holds between those of the entries
    same_pairs : (R : Triple → Triple → Type 0) → AllPairs (λ (x y : Final). R x.triple y.triple) table.finals →
        AllPairs (λ (x y : Entry). R x.triple y.triple) entries
    same_pairs R each i j d lt lt' =
        let within : j < length table.finals = omega (arith, lt', collected.length_is) in
        let d' = (item_at table.finals j within).0 in
        subst (λ (t : Triple). R t (get_or entries j d).triple) (same_triple i d d' (omega (arith, lt, within)))
        (subst (R (get_or table.finals i d').triple) (same_triple j d d' within) (each i j d' lt within))

    -- a triple that some final is at most is covered by the entries
    pub entries_cover : (triple : Triple) → Any (λ (final : Final). IsTrue (at_most final.triple triple)) table.finals →
        is_covered entries triple ≡ true
    entries_cover triple some =
        let e = entry_there some.0 some.1 (slice_get-get_or table.finals some.0 some.1 some.2 ∙ ap Some some.3) in
        list_any-place (λ (entry : Entry). at_most entry.triple triple) entries some.0 e.0 e.1
        (subst (λ (t : Triple). at_most t triple ≡ true) (sym e.3) some.4)

-- where some final is at most a triple, some is at most each that this is at most
pub found_upward : (feed : FeedRows) (query : Query) (finals : List Final) → IsUpward (ways feed query) (IsFound finals)
found_upward feed query finals a b below some =
    (some.0, some.1, some.2, some.3, at_most-trans some.1.triple a b some.4 below)

-- what each entry of the query comes to is found, by finals or else
pub each_found : (feed : FeedRows) (query : Query) (whole : Bool) (table : RoundTable) → IsSoundFeed feed →
    (FoundTriple : Triple → Type 0) → IsUpward (ways feed query) FoundTriple →
    ((t : Triple) → IsFound table.finals t → FoundTriple t) → AreLinked (ways feed query) told table.labels →
    CoversStarts (ways feed query) told table.labels →
    AreClosed (ways feed query) told (MayLack (ways feed query) (outdoes feed query) whole FoundTriple) table.labels →
    AreFinals feed query table.labels table.finals → (entry : Entry) → IsEntry feed query entry → FoundTriple entry.triple
each_found feed query whole table sound FoundTriple upward by_finals linked starts closed finals entry is =
    let n = end_of_entry feed query entry sound is in
    reaches_found (ways feed query) (lawful feed query) told (outdoes feed query) (outdone_cuts feed query sound) FoundTriple
    upward whole table.labels linked starts closed
    (λ label last triple at end. by_finals triple (finals.all label last triple at end)) n.a.rides n.a entry.journey.last
    entry.triple (is_reached feed query (part_of_entry entry) n.a n.has) n.end

module _ (feed : FeedRows) (query : Query) (whole : Bool) (table : RoundTable) (sound : IsSoundFeed feed)
    (linked : AreLinked (ways feed query) told table.labels) (starts : CoversStarts (ways feed query) told table.labels)
    (closed : AreClosed (ways feed query) told
    (MayLack (ways feed query) (outdoes feed query) whole (IsFound table.finals)) table.labels)
    (finals : AreFinals feed query table.labels table.finals) where
  -- some final is at most each entry of the query
  each_bettered : (entry : Entry) → IsEntry feed query entry → IsFound table.finals entry.triple
  each_bettered =
      each_found feed query whole table sound (IsFound table.finals) (found_upward feed query table.finals) (λ t found. found)
      linked starts closed finals

  -- the entries by which the finals end are the exact answer, and cover whatever is offered
  pub exact_entries : (entries : List Entry) → entries_of table ≡ Some entries →
      IsExactAnswer feed query entries × CoversOffers feed query entries
  exact_entries entries are =
      let covers : (entry : Entry) → IsEntry feed query entry → is_covered entries entry.triple ≡ true =
      λ entry is. entries_cover feed query table linked finals.right entries are entry.triple
      (each_bettered entry is) in (
        exact_of_front feed query entries (are_entries feed query table linked finals.right entries are)
            (same_pairs feed query table linked finals.right entries are (λ a b. is_before a b ≡ true) finals.in_order)
            (same_pairs feed query table linked finals.right entries are (λ a b. at_most a b ≡ false) finals.apart)
            covers,
        covers_offers feed query entries covers,
      )

  -- so the table ends exactly
  pub ends_exactly : EndsExactly feed query table
  ends_exactly =
      let entries = entries_given feed query table linked finals.right in
      (entries.0, entries.1, (exact_entries entries.0 entries.1).0)
