-- Which answers are exact: what a covering front gives, and that all exact answers have the same triples.
use Rattle.std.proofs.Common.{◌≡◌, refl, sym, ◌∙◌, ap, subst, ℕ, [], ◌∷◌, Bool, ◌<◌, ◌≤◌, ◌⊎◌, inl, inr, true, false, List, map, length, get_or, arith}
use Rattle.std.specs.Prelude.{All, AllPairs, Contains, IsTrue}
use Rattle.std.specs.List.{list_any}
use Rattle.std.proofs.lemmas.Bool.{cases_lt, cases_Bool, both_ways}
use Rattle.std.proofs.lemmas.List.{get_or_default, get_or-map, length-map}
use Rattle.std.proofs.lemmas.List.Elements.{All-contains, Contains-get_or}
use Rattle.std.proofs.lemmas.List.Folds.{Any-from_list_any}
use Rattle.feed_rows.specs.declared.journeys.Query.{Query}
use Rattle.feed_rows.specs.declared.fares.Triple.{Triple}
use Rattle.feed_rows.specs.declared.fares.Entry.{Entry}
use Rattle.feed_rows.specs.FeedRows.{FeedRows}
use Rattle.feed_rows.specs.ParetoTriples.{at_most, is_before}
use Rattle.feed_rows.specs.JourneyEntries.{IsEntry, IsOffered, IsMinimal, IsExactAnswer, CoversOffers}
use Rattle.plain_laws.proofs.Laws.{same_from_members}
use Rattle.feed_laws.proofs.ParetoLaws.{at_most-trans, at_most-antisym, is_before-irrefl, is_before-trans, is_before-of_at_most}

-- of two minimal triples neither is at most the other, unless they are equal
pub same_minimal : (feed : FeedRows) (query : Query) (a b : Triple) → IsMinimal feed query a → IsMinimal feed query b → at_most a b ≡ true → a ≡ b
same_minimal feed query a b p q le = q.least a p.offered le

-- some entry of the list has a triple that is at most this one
abbrev pub is_covered : List Entry → Triple → Bool
is_covered entries triple = list_any (λ entry. at_most entry.triple triple) entries

-- an entry whose triple covers
pub record Cover (entries : List Entry) (triple : Triple) : Type 0 where
  pub entry : Entry
  pub member : Contains entries entry
  pub below : at_most entry.triple triple ≡ true

-- a triple that is covered has such an entry
pub cover_of_covered : (entries : List Entry) (triple : Triple) → is_covered entries triple ≡ true → Cover entries triple
cover_of_covered entries triple h =
    let some = Any-from_list_any (λ entry. at_most entry.triple triple) entries h in
    record { entry = some.1; member = (some.0, some.2, some.3); below = some.4 }

-- the triple of a member is among the triples
pub triple_of_member : (entries : List Entry) (entry : Entry) → Contains entries entry → Contains (map (λ e. e.triple) entries) entry.triple
triple_of_member entries entry h =
    let long = length-map entries (λ e. e.triple) in
    let lt = h.1 in
    (h.0, omega arith, get_or-map (λ e. e.triple) entries h.0 entry entry.triple h.1 ∙ ap (λ e. e.triple) h.2)

-- a triple that is among those of the entries is one of an entry
pub member_of_triple : (entries : List Entry) (triple : Triple) → Contains (map (λ e. e.triple) entries) triple → (entry : Entry) × Contains entries entry × (entry.triple ≡ triple)
member_of_triple entries triple h = by entries h.0 h.1 h.2
  where
    by : (es : List Entry) (k : ℕ) → k < length (map (λ e. e.triple) es) → get_or (map (λ e. e.triple) es) k triple ≡ triple → (entry : Entry) × Contains es entry × (entry.triple ≡ triple)
    by [] k lt e = absurd (omega arith)
    by (x ∷ xs) k lt e =
        let long = length-map (x ∷ xs) (λ e. e.triple) in
        let within : k < length (x ∷ xs) = omega arith in
        (get_or (x ∷ xs) k x, Contains-get_or (x ∷ xs) k x within, sym (get_or-map (λ e. e.triple) (x ∷ xs) k x triple within) ∙ e)

-- what holds between the triples of entries holds between those of their list
pub AllPairs-triples : (R : Triple → Triple → Type 0) (entries : List Entry) → AllPairs (λ a b. R a.triple b.triple) entries → AllPairs R (map (λ e. e.triple) entries)
AllPairs-triples R entries rises i j d lt within = by entries rises within
  where
    by : (es : List Entry) → AllPairs (λ a b. R a.triple b.triple) es → j < length (map (λ e. e.triple) es) → R (get_or (map (λ e. e.triple) es) i d) (get_or (map (λ e. e.triple) es) j d)
    by [] rises inside = absurd (omega arith)
    by (x ∷ xs) rises inside =
        let long = length-map (x ∷ xs) (λ e. e.triple) in
        let in_i : i < length (x ∷ xs) = omega arith in
        let in_j : j < length (x ∷ xs) = omega arith in
        let at_i = get_or-map (λ e. e.triple) (x ∷ xs) i x d in_i in
        let at_j = get_or-map (λ e. e.triple) (x ∷ xs) j x d in_j in
        subst (λ a. R a (get_or (map (λ e. e.triple) (x ∷ xs)) j d)) (sym at_i) (subst (λ b. R (get_or (x ∷ xs) i x).triple b) (sym at_j) (rises i j x lt in_j))

-- the triples of an exact answer are all in each other one
triple_in_other : (feed : FeedRows) (query : Query) (xs ys : List Entry) → IsExactAnswer feed query xs → IsExactAnswer feed query ys → (z : Triple) → Contains (map (λ e. e.triple) xs) z → Contains (map (λ e. e.triple) ys) z
triple_in_other feed query xs ys p q z h =
    let m = member_of_triple xs z h in
    q.complete z (subst (IsMinimal feed query) m.2 (All-contains (λ e. IsMinimal feed query e.triple) xs m.0 p.minimal m.1))

-- all exact answers have the same triples, in the same order
pub same_triples : (feed : FeedRows) (query : Query) (xs ys : List Entry) → IsExactAnswer feed query xs → IsExactAnswer feed query ys → map (λ e. e.triple) xs ≡ map (λ e. e.triple) ys
same_triples feed query xs ys p q =
    same_from_members (λ a b. IsTrue (is_before a b))
    (record { irreflexive = λ a h. both_ways (is_before a a) (is_before-irrefl a) h; transitive = is_before-trans })
    (map (λ e. e.triple) xs) (map (λ e. e.triple) ys)
    (AllPairs-triples (λ a b. IsTrue (is_before a b)) xs p.in_order) (AllPairs-triples (λ a b. IsTrue (is_before a b)) ys q.in_order)
    (record { there = triple_in_other feed query xs ys p q; back = triple_in_other feed query ys xs q p })

-- entries of the query, strictly in order and none at most a later one, that cover each entry of the query are an exact
-- answer
pub exact_of_front : (feed : FeedRows) (query : Query) (entries : List Entry) → All (IsEntry feed query) entries →
    AllPairs (λ a b. IsTrue (is_before a.triple b.triple)) entries →
    AllPairs (λ a b. at_most a.triple b.triple ≡ false) entries →
    ((e : Entry) → IsEntry feed query e → is_covered entries e.triple ≡ true) → IsExactAnswer feed query entries
exact_of_front feed query entries right in_order apart covers = record {
  right = right;
  minimal = λ k d lt. record {
    offered = (get_or entries k d, right k d lt, refl);
    least = λ u o le.
        let have = cover_of_covered entries o.0.triple (covers o.0 o.1) in
        let near : at_most have.entry.triple u ≡ true = subst (λ t. at_most have.entry.triple t ≡ true) o.2 have.below in
        let below = at_most-trans have.entry.triple u (get_or entries k d).triple near le in
        let same = one d have.member.0 k have.entry have.member.1 lt have.member.2 below in
        at_most-antisym u (get_or entries k d).triple le (subst (λ e. at_most e.triple u ≡ true) same near);
  };
  complete = λ t least.
      let o = least.offered in
      let have = cover_of_covered entries o.0.triple (covers o.0 o.1) in
      let near : at_most have.entry.triple t ≡ true = subst (λ u. at_most have.entry.triple u ≡ true) o.2 have.below in
      let same = least.least have.entry.triple (have.entry, All-contains (IsEntry feed query) entries have.entry right have.member, refl) near in
      subst (Contains (map (λ e. e.triple) entries)) same (triple_of_member entries have.entry have.member);
  in_order = in_order;
}
  where
    one : (d : Entry) (j k : ℕ) (m : Entry) → j < length entries → k < length entries → get_or entries j m ≡ m → at_most m.triple (get_or entries k d).triple ≡ true → m ≡ get_or entries k d
    one d j k m lj lk is le = by (cases_lt j k) (cases_lt k j)
      where
        at_j : get_or entries j d ≡ m
        at_j = get_or_default entries j d m lj ∙ is

        by : (j < k) ⊎ (k ≤ j) → (k < j) ⊎ (j ≤ k) → m ≡ get_or entries k d
        by (inl jk) _ = absurd (both_ways _ (apart j k d jk lk) (subst (λ e. at_most e.triple (get_or entries k d).triple ≡ true) (sym at_j) le))
        by (inr kj) (inl before) =
            absurd (both_ways _ (is_before-of_at_most m.triple (get_or entries k d).triple le) (subst (λ e. is_before (get_or entries k d).triple e.triple ≡ true) at_j (in_order k j d before lj)))
        by (inr kj) (inr jk) = let same : j ≡ k = omega arith in sym at_j ∙ ap (λ i. get_or entries i d) same

-- an exact answer is such a list
pub front_of_exact : (feed : FeedRows) (query : Query) (entries : List Entry) → IsExactAnswer feed query entries → AllPairs (λ a b. at_most a.triple b.triple ≡ false) entries
front_of_exact feed query entries exact i j d lt within =
    by (cases_Bool (at_most (get_or entries i d).triple (get_or entries j d).triple))
  where
    in_i : i < length entries
    in_i = omega arith

    by : (at_most (get_or entries i d).triple (get_or entries j d).triple ≡ true) ⊎ (at_most (get_or entries i d).triple (get_or entries j d).triple ≡ false) → at_most (get_or entries i d).triple (get_or entries j d).triple ≡ false
    by (inr h) = h
    by (inl h) =
        let same = (exact.minimal j d within).least (get_or entries i d).triple (exact.minimal i d in_i).offered h in
        absurd (both_ways _ (is_before-irrefl (get_or entries j d).triple) (subst (λ t. is_before t (get_or entries j d).triple ≡ true) same (exact.in_order i j d lt within)))

-- entries that cover each entry of the query cover whatever is offered
pub covers_offers : (feed : FeedRows) (query : Query) (entries : List Entry) →
    ((e : Entry) → IsEntry feed query e → is_covered entries e.triple ≡ true) → CoversOffers feed query entries
covers_offers feed query entries covers triple offered =
    Any-from_list_any (λ entry. at_most entry.triple triple) entries
    (subst (λ t. is_covered entries t ≡ true) offered.2 (covers offered.0 offered.1))

-- where no entries cover whatever is offered, nothing is
pub nothing_offered : (feed : FeedRows) (query : Query) → CoversOffers feed query [] → (triple : Triple) → IsOffered feed query triple → ⊥
nothing_offered feed query covers triple offered = let some = covers triple offered in let lt = some.2 in omega (arith, lt)

-- so an exact answer without entries that covers whatever is offered says that nothing is
pub empty_answer : (feed : FeedRows) (query : Query) → IsExactAnswer feed query [] × CoversOffers feed query [] → (triple : Triple) → IsOffered feed query triple → ⊥
empty_answer feed query answer = nothing_offered feed query answer.1
