-- The triples of an exact answer are exactly the minimal ones, in order, so they make the text of `gen`; and what such
-- triples can't be.
use Rattle.std.proofs.Common.{◌≡◌, refl, ℕ, List, [], ◌∷◌, map, IsTrue, arith}
use Rattle.std.specs.Prelude.{Ok}
use Rattle.std.proofs.lemmas.Bool.{both_ways}
use Rattle.std.proofs.lemmas.List.Elements.{All-map}
use Rattle.feed_rows.specs.FeedRows.{FeedRows}
use Rattle.feed_rows.specs.ParetoTriples.{is_before}
use Rattle.feed_rows.specs.JourneyEntries.{IsExactAnswer, IsMinimal}
use Rattle.feed_rows.specs.GeneratedTexts.{AreMinimalTriples, gen_text}
use Rattle.commands.specs.GeneratedPlan.{IsGenText}
use Rattle.commands.specs.GeneratedPlan.{generated_plan}
use Rattle.commands.specs.Queries.{query_of}
use Rattle.feed_rows.specs.declared.journeys.Query.{Query}
use Rattle.feed_rows.specs.declared.fares.Entry.{Entry}
use Rattle.feed_rows.specs.declared.fares.Triple.{Triple}
use Rattle.feed_laws.proofs.ExactLaws.{AllPairs-triples}
use Rattle.feed_laws.proofs.ParetoLaws.{is_before-irrefl}

-- the triples of an exact answer
pub exact_triples : (feed : FeedRows) (query : Query) (entries : List Entry) → IsExactAnswer feed query entries
    → AreMinimalTriples feed query (map (λ entry. entry.triple) entries)
exact_triples feed query entries exact =
    record {
      minimal = All-map (IsMinimal feed query) (λ entry. entry.triple) entries exact.minimal;
      complete = exact.complete;
      in_order = AllPairs-triples (λ a b. IsTrue (is_before a b)) entries exact.in_order;
    }

-- they make the text of `gen`
pub exact_gen_text : (feed : FeedRows) (lines : ℕ) (query : Query) (entries : List Entry) → query_of feed (generated_plan lines) ≡ Ok query
    → IsExactAnswer feed query entries → IsGenText feed lines (gen_text feed (map (λ entry. entry.triple) entries))
exact_gen_text feed lines query entries is exact =
    record {
      query = query;
      is_query = is;
      triples = map (λ entry. entry.triple) entries;
      are_minimal = exact_triples feed query entries exact;
      is_text = refl;
    }

-- a triple that is told is minimal
told_is_minimal : (feed : FeedRows) (query : Query) (t : Triple) (ts : List Triple) → AreMinimalTriples feed query (t ∷ ts) → IsMinimal feed query t
told_is_minimal feed query t ts are = are.minimal 0 t (omega arith)

-- none is told twice
told_once : (feed : FeedRows) (query : Query) (t : Triple) → AreMinimalTriples feed query (t ∷ t ∷ []) → ⊥
told_once feed query t are = both_ways _ (is_before-irrefl t) (are.in_order 0 1 t (omega arith) (omega arith))

-- the earlier comes first
told_in_order : (feed : FeedRows) (query : Query) (t u : Triple) → AreMinimalTriples feed query (t ∷ u ∷ []) → IsTrue (is_before t u)
told_in_order feed query t u are = are.in_order 0 1 t (omega arith) (omega arith)

-- nothing is told only where no triple is minimal
none_told : (feed : FeedRows) (query : Query) (t : Triple) → IsMinimal feed query t → AreMinimalTriples feed query [] → ⊥
none_told feed query t minimal are = let has = are.complete t minimal in let lt = has.1 in omega (arith, lt)

-- the text of `gen` is that of its triples
gen_text_is : (feed : FeedRows) (lines : ℕ) (text : List ℕ) (is : IsGenText feed lines text) → text ≡ gen_text feed is.triples
gen_text_is feed lines text is = is.is_text
