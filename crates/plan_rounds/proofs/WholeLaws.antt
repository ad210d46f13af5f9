-- The table of a search is real, and finds whatever is offered but for what was given; that of one that is to be whole is exact,
-- sound and closed.
use Rattle.std.proofs.Common.{◌≡◌, sym, ◌∙◌, ap, subst, ℕ, ◌<◌, ◌⊎◌, inl, inr, ⊎_elim, Bool, true, false, List, get_or, All}
use Rattle.std.specs.Prelude.{◌≢◌, Some, slice_get}
use Rattle.std.proofs.lemmas.Bool.{both_ways, cases_order}
use Rattle.std.proofs.lemmas.List.Elements.{All-contains}
use Rattle.std.proofs.lemmas.List.Folds.{Any-from_list_any, list_any-from_Any}
use Rattle.plain_laws.proofs.Laws.{All-slice_get, list_any-map, Contains-slice_get, mapped_tells}
use Rattle.std.proofs.lemmas.Option.{slice_get-map, slice_get_within, get_or_from_slice_get}
use Rattle.transit_base.specs.declared.numbers.StopId.{StopId}
use Rattle.feed_rows.specs.declared.journeys.Query.{Query}
use Rattle.feed_rows.specs.declared.journeys.Ride.{Ride}
use Rattle.feed_rows.specs.declared.states.Move.{Move}
use Rattle.feed_rows.specs.ClosedTable.{IsClosedTable}
use Rattle.feed_rows.specs.FareFloor.{is_outdone}
use Rattle.feed_rows.specs.FeedRows.{FeedRows}
use Rattle.feed_rows.specs.declared.fares.Triple.{Triple}
use Rattle.feed_rows.specs.LabelCover.{Covers}
use Rattle.feed_rows.specs.ParetoTriples.{at_most}
use Rattle.feed_rows.specs.PartialJourneys.{LabelFacts}
use Rattle.feed_rows.specs.RoundTables.{Label as Kept, RoundTable}
use Rattle.feed_rows.specs.SoundFeed.{IsSoundFeed}
use Rattle.feed_rows.specs.SoundTable.{IsWithoutExcess, CoversJourneys, IsPruned}
use Rattle.label_bag.specs.Bags.{AreApart}
use Rattle.round_laws.specs.LabelSteps.{IsLabelEnd, ways}
use Rattle.round_laws.specs.LinkedTables.{AreFinals, IsFinal, IsFound, told}
use Rattle.round_laws.proofs.AnswerLaws.{are_entries, each_found, ends_exactly, entries_cover, entries_given, exact_entries}
use Rattle.round_laws.proofs.ClosedLaws.{covers_journeys, closed_table}
use Rattle.round_laws.proofs.TableLaws.{are_real}
use Rattle.round_terms.specs.declared.finals.Final.{Final}
use Rattle.round_terms.specs.declared.label.Label.{Label}
use Rattle.round_terms.specs.CoverLaws.{covers-holds}
use Rattle.round_terms.specs.Labels.{covers, facts_of}
use Rattle.fare_tariff.specs.declared.fare.Fare.{Fare}
use Rattle.fare_tariff.specs.FareTerms.{IsFare, at_most as fare_at_most, label_facts}
use Rattle.fare_tariff.proofs.WayLaws.{covers_by}
use Rattle.round_search.specs.Finals.{is_bettered}
use Rattle.round_table.specs.Finals.{final_of, finals_of}
use Rattle.round_table.specs.Labels.{label_of, labels_of}
use Rattle.round_table.specs.Tables.{table_in, FindsBut, IsExactTable, IsRealTable, is_given}
use Rattle.round_table.proofs.TableLaws.{are_bags}
use Rattle.search_laws.proofs.LinkLaws.{closed_as, linked_as, starts_as}
use Rattle.round_laws.specs.Futility.{outdoes}
use Rattle.search_laws.specs.Cuts.{MayLack}
use Rattle.search_laws.specs.Links.{AreClosed, AreLinked, CoversStarts, told_as}
use Rattle.search_laws.specs.Stores.{AreUncut, AreWhole, Search}
use Rattle.search_laws.specs.Ways.{IsUpward}

-- what is bettered is found
pub found_of : (finals : List Final) (t : Triple) → is_bettered finals t → IsFound (finals_of finals) t
found_of finals t h =
    Any-from_list_any (λ final. at_most final.triple t) (finals_of finals)
    (list_any-map (λ final. at_most final.triple t) final_of finals ∙ h)

-- and what is found is bettered
pub found_bettered : (finals : List Final) (t : Triple) → IsFound (finals_of finals) t → is_bettered finals t
found_bettered finals t found =
    sym (list_any-map (λ final. at_most final.triple t) final_of finals)
    ∙ list_any-from_Any (λ final. at_most final.triple t) (finals_of finals) found

-- labels of a search that tell what tables tell, where such labels fit
abbrev pub table_search : FeedRows → Query → (Label Fare Move → Type 0) → Search (Label Fare Move) LabelFacts Ride Move StopId Triple
table_search feed query Fits =
    record { ways = ways feed query; told = told_as label_of Fits told; covers = covers fare_at_most; Cuts = outdoes feed query }

module _ (feed : FeedRows) (query : Query) (Fits : Label Fare Move → Type 0) (fare : (x : Label Fare Move) → Fits x → IsFare x.rides x.fare)
    (labels : List (Label Fare Move)) (finals : List Final) where
  abbrev table : RoundTable
  table = table_in labels finals

  abbrev search : Search (Label Fare Move) LabelFacts Ride Move StopId Triple
  search = table_search feed query Fits

  -- the labels of all rounds are linked in the table, and cover the starts and their steps
  module _ {Lacking : LabelFacts → Type 0} (are : AreWhole search Lacking query.rides labels) where
    linked : AreLinked (ways feed query) told (labels_of labels)
    linked = linked_as (ways feed query) label_of Fits told labels are.linked

    starts : CoversStarts (ways feed query) told (labels_of labels)
    starts = starts_as (ways feed query) label_of Fits told labels are.starts

    closed : AreClosed (ways feed query) told Lacking (labels_of labels)
    closed = closed_as (ways feed query) label_of Fits told Lacking labels are.closed

  -- of labels at two numbers neither covers the other
  apart_at : AreApart (covers fare_at_most) labels → All Fits labels → (m n : ℕ) (x y : Label Fare Move) → slice_get labels m ≡ Some x →
      slice_get labels n ≡ Some y → m ≢ n → Covers (label_facts (facts_of x)) (label_facts (facts_of y)) → ⊥
  apart_at apart fit m n x y at_m at_n differ below = by (cases_order m n)
    where
      holds : covers fare_at_most x y ≡ true
      holds =
          covers-holds fare_at_most x y
          (covers_by (label_facts (facts_of x)) (label_facts (facts_of y)) (fare x (All-slice_get Fits labels m x at_m fit)).stated
          (fare y (All-slice_get Fits labels n y at_n fit)).stated below)

      by : (m ≡ n) ⊎ ((m < n) ⊎ (n < m)) → ⊥
      by (inl same) = differ same
      by (inr (inl lt)) =
          let pair = apart m n x lt (slice_get_within labels n y at_n) in
          both_ways (covers fare_at_most x y) (subst (λ (a : Label Fare Move). covers fare_at_most a y ≡ false) (get_or_from_slice_get labels m x x at_m)
          (subst (λ (b : Label Fare Move). covers fare_at_most (get_or labels m x) b ≡ false) (get_or_from_slice_get labels n y x at_n) pair.forth)) holds
      by (inr (inr lt)) =
          let pair = apart n m x lt (slice_get_within labels m x at_m) in
          both_ways (covers fare_at_most x y) (subst (λ (a : Label Fare Move). covers fare_at_most a y ≡ false) (get_or_from_slice_get labels m x x at_m)
          (subst (λ (b : Label Fare Move). covers fare_at_most (get_or labels m x) b ≡ false) (get_or_from_slice_get labels n y x at_n) pair.back)) holds

  no_excess : AreApart (covers fare_at_most) labels → All Fits labels → IsWithoutExcess table
  no_excess apart fit m n a b is_a is_b differ below =
      let x = mapped_tells label_of (slice_get labels m) a (sym (slice_get-map label_of labels m) ∙ is_a) in
      let y = mapped_tells label_of (slice_get labels n) b (sym (slice_get-map label_of labels n) ∙ is_b) in
      apart_at apart fit m n x.0 y.0 x.1 y.1 differ
      (subst (λ (l : Kept). Covers l.facts (label_facts (facts_of y.0))) (sym x.2) (subst (λ (l : Kept). Covers a.facts l.facts) (sym y.2) below))

  -- no label is outdone by a final with fewer rides
  pruned : AreUncut search labels → AreFinals feed query (labels_of labels) (finals_of finals) →
      IsPruned feed query table
  pruned are ends number label final is at lt outdone =
      let x = mapped_tells label_of (slice_get labels number) label
      (sym (slice_get-map label_of labels number) ∙ is) in
      let f = All-contains (IsFinal feed query (labels_of labels)) (finals_of finals) final ends.right at in
      let y =
      mapped_tells label_of (slice_get labels final.label) f.label
      (sym (slice_get-map label_of labels final.label) ∙ f.is) in
      let fewer =
      subst (λ (n : ℕ). n < x.0.rides) (f.end.rides ∙ sym (ap (λ (l : Kept). l.facts.rides) y.2))
      (subst (λ (l : Kept). final.triple.rides < l.facts.rides) (sym x.2) lt) in
      let ends_there =
      subst (λ (l : Kept). IsLabelEnd feed query l.facts final.last final.triple) (sym y.2) f.end in
      are x.0 y.0 (Contains-slice_get labels number x.0 x.1) (Contains-slice_get labels final.label y.0 y.1) fewer final.last
      final.triple ends_there (subst (λ (l : Kept). is_outdone feed query final.triple l.facts ≡ true) (sym x.2) outdone)

  pub real_table : (Lacking : LabelFacts → Type 0) → AreWhole search Lacking query.rides labels →
      AreFinals feed query (labels_of labels) (finals_of finals) → IsRealTable feed query table
  real_table Lacking are ends =
      let entries = entries_given feed query table (linked are) ends.right in
      record {
        real = λ number label is. are_real feed query table number label (linked are) is;
        bags = are_bags labels finals;
        no_excess = no_excess are.apart are.fit;
        pruned = pruned are.uncut ends;
        entries = (entries.0, entries.1, are_entries feed query table (linked are) ends.right entries.0 entries.1);
      }

  -- what a search lacks is found by finals, or was given
  pub finds_all : IsSoundFeed feed → (whole : Bool) (given : List Triple) →
      AreWhole search
      (MayLack (ways feed query) (outdoes feed query) whole (λ t. is_bettered finals t ⊎ is_given given t)) query.rides labels →
      IsUpward (ways feed query) (λ t. is_bettered finals t ⊎ is_given given t) →
      AreFinals feed query (labels_of labels) (finals_of finals) → FindsBut feed query given table
  finds_all sound whole given are upward ends entries is entry entry_is =
      ⊎_elim (λ some. inl (entries_cover feed query table (linked are) ends.right entries is entry.triple (found_of finals entry.triple some))) inr
      (each_found feed query whole table sound (λ t. is_bettered finals t ⊎ is_given given t) upward
      (λ t found. inl (found_bettered finals t found)) (linked are) (starts are) (closed are) ends entry entry_is)

  -- a search that is to be whole is exact
  pub exact_table : IsSoundFeed feed → AreWhole search
      (MayLack (ways feed query) (outdoes feed query) true (IsFound (finals_of finals))) query.rides labels →
      AreFinals feed query (labels_of labels) (finals_of finals) → IsExactTable feed query table
  exact_table sound are ends = record {
    exact = ends_exactly feed query true table sound (linked are) (starts are) (closed are) ends;
    offers = λ entries is. (exact_entries feed query true table sound (linked are) (starts are) (closed are) ends entries is).1;
  }

  -- a search that is to be whole covers the partial journeys, and its table is closed
  pub covers_all : IsSoundFeed feed → AreWhole search
      (MayLack (ways feed query) (outdoes feed query) true (IsFound (finals_of finals))) query.rides labels →
      CoversJourneys feed query table
  covers_all sound are = covers_journeys feed query table sound (linked are) (starts are) (closed are)

  pub closed_all : IsSoundFeed feed → AreWhole search
      (MayLack (ways feed query) (outdoes feed query) true (IsFound (finals_of finals))) query.rides labels →
      IsClosedTable feed query table
  closed_all sound are = closed_table feed query table sound (linked are) (starts are) (closed are)
