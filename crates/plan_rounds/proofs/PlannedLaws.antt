-- Entries of two searches, of which the best answer a query.
use Rattle.std.proofs.Common.{◌≡◌, sym, ◌∙◌, subst, arith, ◌⊎◌, inl, inr, ⊎_elim, true, List, [], ◌∷◌, ◌++◌}
use Rattle.std.specs.Prelude.{All, Contains, Some, map}
use Rattle.std.proofs.lemmas.Option.{same_Some}
use Rattle.std.proofs.lemmas.List.Elements.{All-contains, All-nil, Contains-append_cases, Contains-append_left, Contains-append_right}
use Rattle.std.proofs.lemmas.List.Folds.{Any-from_list_any}
use Rattle.feed_rows.specs.declared.fares.Entry.{Entry}
use Rattle.feed_rows.specs.declared.journeys.Query.{Query}
use Rattle.feed_rows.specs.declared.fares.Triple.{Triple}
use Rattle.feed_rows.specs.FeedRows.{FeedRows}
use Rattle.feed_rows.specs.JourneyEntries.{CoversOffers, IsEntry, IsExactAnswer}
use Rattle.feed_rows.specs.ParetoTriples.{at_most, is_before}
use Rattle.feed_rows.specs.RoundTables.{RoundTable, entries_of}
use Rattle.feed_laws.proofs.ExactLaws.{covers_offers, exact_of_front, is_covered}
use Rattle.feed_laws.proofs.ParetoLaws.{at_most-trans}
use Rattle.pareto_front.specs.Fronts.{CoversAll, IsFront, has_as_good}
use Rattle.plain_laws.proofs.AddsLaws.{adds_none}
use Rattle.plain_laws.proofs.Laws.{All-from, Contains-cons_cases, list_any-map}
use Rattle.round_table.specs.Tables.{FindsBut, HasEntries}
use Rattle.plan_rounds.specs.Planned.{AddsEntries, CoversAllBy, as_good}

-- what a table finds beside the triples of entries, the entries by which its finals end and these find together
pub covers_both : (feed : FeedRows) (query : Query) (known found : List Entry) (table : RoundTable) →
    FindsBut feed query (map (λ (entry : Entry). entry.triple) known) table → entries_of table ≡ Some found → CoversAllBy feed query known found
covers_both feed query known found table finds is entry e =
    ⊎_elim inl
    (λ given. inr (sym (list_any-map (λ (t : Triple). at_most t entry.triple) (λ (x : Entry). x.triple) known) ∙ given))
    (finds found is entry e)

-- and they are of the query, where its finals end by entries of it
pub entries_are : (feed : FeedRows) (query : Query) (found : List Entry) (table : RoundTable) → HasEntries feed query table →
    entries_of table ≡ Some found → All (IsEntry feed query) found
entries_are feed query found table has is = subst (All (IsEntry feed query)) (same_Some _ _ (sym has.1 ∙ is)) has.2

-- an item of an empty list
no_entry : (x : Entry) → Contains [] x → ⊥
no_entry x at = let lt = at.1 in omega (arith, lt)

-- nothing was offered
pub adds_nothing : (front : List Entry) → AddsEntries [] front front
adds_nothing front = adds_none (λ x at. inl at) no_entry

-- what is there is of a kind, where all is that was there before or was offered
pub adds_right : (P : Entry → Type 0) (entries old new : List Entry) → AddsEntries entries old new → All P old → All P entries → All P new
adds_right P entries old new adds before offered =
    All-from P new (λ x at. ⊎_elim (All-contains P old x before) (All-contains P entries x offered) (adds.right x at))

-- one entry more was
pub adds_one : (entries old mid new : List Entry) (entry : Entry) → AddsEntries entries old mid → has_as_good as_good new entry ≡ true →
    CoversAll as_good mid new → All (λ x. Contains mid x ⊎ (x ≡ entry)) new → AddsEntries (entries ++ entry ∷ []) old new
adds_one entries old mid new entry adds covered still from = record {
  right = λ x at.
      ⊎_elim (λ before. ⊎_elim inl (λ among. inr (Contains-append_left entries (entry ∷ []) x among)) (adds.right x before))
      (λ same. inr (Contains-append_right entries (entry ∷ []) x (0, omega arith, sym same)))
      (All-contains (λ e. Contains mid e ⊎ (e ≡ entry)) new x from at);
  still = λ x h. still.still x (adds.still x h);
  all = λ x at.
      ⊎_elim (λ before. still.still x (adds.all x before))
      (λ last. subst (λ e. has_as_good as_good new e ≡ true) (last_is x last) covered)
      (Contains-append_cases entries (entry ∷ []) x at);
}
  where
    last_is : (x : Entry) → Contains (entry ∷ []) x → entry ≡ x
    last_is x last = ⊎_elim (λ same. same) (λ none. absurd (no_entry x none)) (Contains-cons_cases entry [] x last)

module _ (feed : FeedRows) (query : Query) (known found mid new : List Entry) (first : AddsEntries known [] mid)
    (second : AddsEntries found mid new) (known_are : All (IsEntry feed query) known) (found_are : All (IsEntry feed query) found)
    (covers : CoversAllBy feed query known found)
    (front : IsFront (λ (a : Entry) (b : Entry). at_most a.triple b.triple) (λ (a : Entry) (b : Entry). is_before a.triple b.triple) new) where
  are : All (IsEntry feed query) new
  are =
      adds_right (IsEntry feed query) found mid new second
      (adds_right (IsEntry feed query) known [] mid first (All-nil (IsEntry feed query)) known_are) found_are

  -- what has something as good as one entry has a triple that is at most whatever that is at most
  up : (e x : Entry) (list : List Entry) → has_as_good as_good list x ≡ true → at_most x.triple e.triple ≡ true → is_covered list e.triple ≡ true
  up e x [] some le = some
  up e x (y ∷ ys) some le =
      let rest = up e x ys in
      let step = at_most-trans y.triple x.triple e.triple in
      grind (arith, some, le, rest, step)

  above : (e : Entry) (list entries : List Entry) → has_as_good as_good entries e ≡ true →
      ((x : Entry) → Contains entries x → has_as_good as_good list x ≡ true) → is_covered list e.triple ≡ true
  above e list entries some each =
      let better = Any-from_list_any (λ x. at_most x.triple e.triple) entries some in
      up e better.1 list (each better.1 (better.0, better.2, better.3)) better.4

  -- each entry of the query is covered
  all : (e : Entry) → IsEntry feed query e → is_covered new e.triple ≡ true
  all e is =
      ⊎_elim (λ some. above e new found some second.all) (λ some. second.still e (above e mid known some first.all)) (covers e is)

  -- so they answer it exactly
  pub exact_of_both : IsExactAnswer feed query new × CoversOffers feed query new
  exact_of_both = (
    exact_of_front feed query new are (λ i j d lt within. (front i j d lt within).earlier) (λ i j d lt within. (front i j d lt within).dearer) all,
    covers_offers feed query new all,
  )
