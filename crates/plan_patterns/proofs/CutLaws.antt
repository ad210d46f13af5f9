-- Runs by the halts of their trips, and how they are cut into patterns.
use Rattle.std.proofs.Common.{◌≡◌, refl, sym, ◌∙◌, ap, subst, ℕ, ◌+◌, ◌-◌, ◌<◌, ◌≤◌, ◌⊎◌, inl, inr, Bool, true, false, not, List, [], ◌∷◌, ◌++◌, length, get_or, arith, zero, suc, append-nil, map, drop, take, All}
use Rattle.std.specs.Prelude.{Some, slice_get, slice_range}
use Rattle.std.specs.List.{AllWithin}
use Rattle.std.specs.List.Sorted.{IsPermutation, IsSortedByKey}
use Rattle.std.specs.Cmp.{IsTotalOrder, bool_cmp_total}
use Rattle.std.specs.FinMap.{IsAntisymmetric, slice_cmp-IsAntisymmetric, nat_cmp-IsAntisymmetric}
use Rattle.std.specs.Ordering.{is_lt, ordering_reverse, nat_cmp, bool_cmp, ordering_then}
use Rattle.std.specs.declared.cmp.Ordering.{Ordering}
use Rattle.std.specs.declared.cmp.Ordering.TheVariants.{Less, Equal, Greater}
use Rattle.std.proofs.lemmas.Bool.{cases_lt}
use Rattle.std.proofs.lemmas.Cmp.{lists_total, nat_cmp_total, on_total, then_total, tied_itself}
use Rattle.std.proofs.lemmas.List.Sorted.{All-permutation, IsPermutation-map, ranks_by, sorted_far}
use Rattle.std.proofs.lemmas.Grind.{flat_map-append}
use Rattle.std.proofs.lemmas.List.{get_or-drop, get_or-map, get_or-take, length-drop, length-map, length-take, map-append, take_all, take_more}
use Rattle.std.proofs.lemmas.List.Elements.{All-nil, All-push}
use Rattle.std.proofs.lemmas.List.Quantifiers.{all_pairs_push}
use Rattle.std.proofs.lemmas.Option.{same_Some, slice_get-get_or, slice_get_within}
use Rattle.feed_rows.specs.FeedRows.{FeedRows}
use Rattle.plain_laws.proofs.Laws.{cut_further, filled_and-true}
use Rattle.plan_patterns.specs.declared.cuts.RunWithHalts.{RunWithHalts}
use Rattle.plan_patterns.specs.declared.pattern.Pattern.{Pattern}
use Rattle.plan_patterns.specs.declared.halts.Halt.{Halt}
use Rattle.plan_patterns.specs.declared.runs.Run.{Run}
use Rattle.plan_patterns.specs.Columns.{IsPattern, IsRunAt}
use Rattle.plan_patterns.specs.Runs.{IsKnown}
use Rattle.plan_patterns.specs.Cuts.{AreCut, AreInHaltOrder, ArePatternsOf, AreTogether, AreWithHalts, IsCutTo, IsOwn, entry_halts, entry_runs, goes_on}
use Rattle.plan_patterns.specs.Halts.{halt_cmp, halts_cmp, run_halts}

-- lists of halts are ordered
pub halts_total : IsTotalOrder halts_cmp
halts_total = lists_total (then_total (then_total (on_total (λ (p : Halt). p.stop.0) nat_cmp_total) (on_total (λ (p : Halt). p.pickup) bool_cmp_total)) (on_total (λ (p : Halt). p.drop_off) bool_cmp_total))

-- halts that compare alike are one
one_flag : IsAntisymmetric bool_cmp
one_flag true true e = refl
one_flag false false e = refl
one_flag true false e = absurd (let no : Greater ≡ Equal = e in cc)
one_flag false true e = absurd (let no : Less ≡ Equal = e in cc)

both_equal : (a b : Ordering) → ordering_then a b ≡ Equal → (a ≡ Equal) × (b ≡ Equal)
both_equal Less b e = absurd (let no : Less ≡ Equal = e in cc)
both_equal Equal b e = (refl, e)
both_equal Greater b e = absurd (let no : Greater ≡ Equal = e in cc)

one_halt : IsAntisymmetric halt_cmp
one_halt a b e =
    let last = both_equal (ordering_then (nat_cmp a.stop.0 b.stop.0) (bool_cmp a.pickup b.pickup)) (bool_cmp a.drop_off b.drop_off) e in
    let first = both_equal (nat_cmp a.stop.0 b.stop.0) (bool_cmp a.pickup b.pickup) last.0 in
    ap (λ n. the n a.pickup a.drop_off) (nat_cmp-IsAntisymmetric a.stop.0 b.stop.0 first.0)
    ∙ ap (λ f. the b.stop.0 f a.drop_off) (one_flag a.pickup b.pickup first.1)
    ∙ ap (λ f. the b.stop.0 b.pickup f) (one_flag a.drop_off b.drop_off last.1)
  where
    the : ℕ → Bool → Bool → Halt
    the stop pickup drop_off = record { stop = record { 0 = stop }; pickup = pickup; drop_off = drop_off }

pub one_list : IsAntisymmetric halts_cmp
one_list = slice_cmp-IsAntisymmetric one_halt

-- runs that are sorted by their halts are in their order
pub in_halt_order : (entries : List RunWithHalts) → IsSortedByKey (λ (entry : RunWithHalts). entry.halts) (λ a b. halts_cmp a.now b.now) entries → AreInHaltOrder entries
in_halt_order entries sorted i j d lt within =
    sorted_far (λ (a : RunWithHalts) (b : RunWithHalts). is_lt (halts_cmp a.halts.now b.halts.now)) (ranks_by halts_total (λ (entry : RunWithHalts). entry.halts.now)) entries sorted i j d (omega arith) within

-- one run more
pub entries_more : (halts : List (List Halt)) (runs : List Run) (entries new : List RunWithHalts) (n : ℕ) (entry : RunWithHalts) → n < length runs →
    AreWithHalts (take n halts) (take n runs) entries → slice_get halts n ≡ Some entry.halts.now → entry.run ≡ get_or runs n entry.run → new ≡ entries ++ entry ∷ [] →
    AreWithHalts (take (n + 1) halts) (take (n + 1) runs) new
entries_more halts runs entries new n entry lt are own run pushed =
    let within = slice_get_within halts n entry.halts.now own in
    let here = same_Some _ _ (sym (slice_get-get_or halts n [] within) ∙ own) in
    rw pushed (record {
      runs_are = map-append (λ (e : RunWithHalts). e.run) entries (entry ∷ [])
          ∙ ap (λ rs. rs ++ entry.run ∷ []) are.runs_are
          ∙ ap (λ r. take n runs ++ r ∷ []) run
          ∙ sym (take_more runs n entry.run lt);
      halts_are = map-append (λ (e : RunWithHalts). e.halts.now) entries (entry ∷ [])
          ∙ ap (λ hs. hs ++ entry.halts.now ∷ []) are.halts_are
          ∙ ap (λ hs. take n halts ++ hs ∷ []) (sym here)
          ∙ sym (take_more halts n [] within);
    })

-- an entry by its place
record Entry (entries : List RunWithHalts) (k : ℕ) : Type 0 where
  entry : RunWithHalts
  is : (d : RunWithHalts) → get_or entries k d ≡ entry
  run : (d : Run) → get_or (entry_runs entries) k d ≡ entry.run
  halts : (d : List Halt) → get_or (entry_halts entries) k d ≡ entry.halts.now

entry_at : (entries : List RunWithHalts) (k : ℕ) → k < length entries → Entry entries k
entry_at [] k lt = absurd (omega arith)
entry_at (e ∷ es) zero lt = record { entry = e; is = λ d. refl; run = λ d. refl; halts = λ d. refl }
entry_at (e ∷ es) (suc k) lt =
    let at = entry_at es k (omega arith) in
    record { entry = at.entry; is = at.is; run = at.run; halts = at.halts }

-- runs with the halts of their trips are of the feed, in whatever order
pub own_entries : (feed : FeedRows) (halts : List (List Halt)) (runs : List Run) (together : List RunWithHalts) →
    AreTogether halts runs together → halts ≡ map (run_halts feed) runs → All (IsKnown feed) runs → All (IsOwn feed) together
own_entries feed halts runs together put is known = All-permutation (IsOwn feed) put.entries together put.moved own
  where
    own : All (IsOwn feed) put.entries
    own k d lt =
        let at = entry_at put.entries k lt in
        let many : length runs ≡ length put.entries = sym (ap length put.are.runs_are) ∙ length-map put.entries (λ (entry : RunWithHalts). entry.run) in
        let run : get_or runs k at.entry.run ≡ at.entry.run = sym (ap (λ rs. get_or rs k at.entry.run) put.are.runs_are) ∙ at.run at.entry.run in
        let tied : at.entry.halts.now ≡ run_halts feed (get_or runs k at.entry.run) = sym (at.halts []) ∙ ap (λ hs. get_or hs k []) (put.are.halts_are ∙ is) ∙ get_or-map (run_halts feed) runs k at.entry.run [] (omega arith) in
        subst (IsOwn feed) (sym (at.is d)) (record {
          known = subst (IsKnown feed) run (known k at.entry.run (omega arith));
          calls = sym (tied ∙ ap (run_halts feed) run);
        })

-- and are the same runs
pub same_runs : (halts : List (List Halt)) (runs : List Run) (together : List RunWithHalts) → AreTogether halts runs together → IsPermutation runs (entry_runs together)
same_runs halts runs together put = subst (λ rs. IsPermutation rs (entry_runs together)) put.are.runs_are (IsPermutation-map (λ (entry : RunWithHalts). entry.run) put.entries together put.moved)

-- the patterns of the runs as they stand together are those of the runs
pub patterns_together : (feed : FeedRows) (halts : List (List Halt)) (runs in_order : List Run) (together : List RunWithHalts) (patterns : List Pattern) →
    AreTogether halts runs together → in_order ≡ entry_runs together → AreCut feed in_order patterns → ArePatternsOf feed runs patterns
patterns_together feed halts runs in_order together patterns put is cut = record {
  in_order = in_order;
  moved = subst (IsPermutation runs) (sym is) (same_runs halts runs together put);
  cut = cut;
}

-- of two lists neither of which comes before the other, both are one
pub level : (a b : List Halt) → is_lt (halts_cmp a b) ≡ false → is_lt (halts_cmp b a) ≡ false → a ≡ b
level a b one other = step (halts_cmp a b) refl
  where
    step : (o : Ordering) → halts_cmp a b ≡ o → a ≡ b
    step Less e = absurd (let no : true ≡ false = sym (ap is_lt e) ∙ one in cc)
    step Equal e = one_list a b e
    step Greater e = absurd (let back : halts_cmp b a ≡ Less = halts_total.antisymm b a ∙ ap ordering_reverse e in let no : true ≡ false = sym (ap is_lt back) ∙ other in cc)

pub less : (o : Ordering) → is_lt o ≡ true → o ≡ Less
less Less e = refl
less Equal e = absurd (let no : false ≡ true = e in cc)
less Greater e = absurd (let no : false ≡ true = e in cc)

-- a list doesn't come before itself
pub unlike : (a b : List Halt) → halts_cmp a b ≡ Less → a ≡ b → ⊥
unlike a b lt same =
    let tie : halts_cmp a b ≡ Equal = subst (λ c. halts_cmp a c ≡ Equal) same (tied_itself halts_total a) in
    let no : Less ≡ Equal = sym lt ∙ tie in
    cc

-- what holds from a place to another holds of the part between
All-part : {X : Type 0} (P : X → Type 0) (xs : List X) (from to : ℕ) → to ≤ length xs → AllWithin P xs from to → All P (slice_range xs from to)
All-part P xs from to le all k d lt =
    let few : k < to - from = omega (arith, simp (length-take, length-drop) at lt) in
    rw (get_or-take (to - from) (drop from xs) k d few, get_or-drop from xs k d) (all (from + k) d (omega arith) (omega arith))

-- runs with the same halts are of trips that have these
pub alike : (feed : FeedRows) (entries : List RunWithHalts) (runs : List Run) (start at : ℕ) (patterns : List Pattern) (own : List Halt) →
    All (IsOwn feed) entries → runs ≡ entry_runs entries → at < length entries → IsCutTo feed entries start at patterns → ((d : RunWithHalts) → own ≡ (get_or entries start d).halts.now) →
    All (IsRunAt feed own) (slice_range runs start (at + 1))
alike feed entries runs start at patterns own right is lt cut own_is =
    let many = ap length is ∙ length-map entries (λ (entry : RunWithHalts). entry.run) in
    All-part (IsRunAt feed own) runs start (at + 1) (omega arith) (λ j d low below.
    let here = entry_at entries j (omega arith) in
    let of : IsRunAt feed here.entry.halts.now here.entry.run = subst (IsOwn feed) (here.is here.entry) (right j here.entry (omega arith)) in
    let same : here.entry.halts.now ≡ own = sym (ap (λ (e : RunWithHalts). e.halts.now) (here.is here.entry)) ∙ cut.same j here.entry low (omega arith) (omega arith) ∙ sym (own_is here.entry) in
    subst (λ hs. IsRunAt feed hs (get_or runs j d)) same
    (subst (IsRunAt feed here.entry.halts.now) (sym (ap (λ rs. get_or rs j d) is ∙ here.run d)) of))

-- whether the next run goes on is told by their halts
goes_on_is : (entries : List RunWithHalts) (at : ℕ) (d : RunWithHalts) → at + 1 < length entries →
    goes_on entries at ≡ not (is_lt (halts_cmp (get_or entries at d).halts.now (get_or entries (at + 1) d).halts.now))
goes_on_is entries at d lt = rw (slice_get-get_or entries (at + 1) d lt, slice_get-get_or entries at d (omega arith)) refl

goes_on_within : (entries : List RunWithHalts) (at : ℕ) → goes_on entries at ≡ true → at + 1 < length entries
goes_on_within entries at e =
    let next = filled_and-true (slice_get entries (at + 1)) _ e in
    slice_get_within entries (at + 1) next.value next.is

not_true : (b : Bool) → not b ≡ true → b ≡ false
not_true true e = sym e
not_true false e = refl

not_false : (b : Bool) → not b ≡ false → b ≡ true
not_false true e = refl
not_false false e = sym e

-- a run that goes on has the same halts
pub cut_same : (feed : FeedRows) (entries : List RunWithHalts) (start at : ℕ) (patterns : List Pattern) → AreInHaltOrder entries →
    IsCutTo feed entries start at patterns → goes_on entries at ≡ true → IsCutTo feed entries start (at + 1) patterns
cut_same feed entries start at patterns ordered cut on =
    let lt = goes_on_within entries at on in
    let within = cut.within in
    record {
      built = cut.built;
      all = cut.all;
      rises = cut.rises;
      before = cut.before;
      within = omega arith;
      same = λ j d low high below. step j d low below (cases_lt at j) high;
      last = λ e. absurd (omega arith);
    }
  where
    next : (d : RunWithHalts) → (get_or entries at d).halts.now ≡ (get_or entries (at + 1) d).halts.now
    next d =
        let lt = goes_on_within entries at on in
        level (get_or entries at d).halts.now (get_or entries (at + 1) d).halts.now
        (not_true _ (sym (goes_on_is entries at d lt) ∙ on)) (ordered at (at + 1) d (omega arith) lt)

    step : (j : ℕ) (d : RunWithHalts) → start ≤ j → j < length entries → (at < j) ⊎ (j ≤ at) → j ≤ at + 1 → (get_or entries j d).halts.now ≡ (get_or entries start d).halts.now
    step j d low below (inr le) high = cut.same j d low le below
    step j d low below (inl gt) high =
        let here : j ≡ at + 1 = omega arith in
        let within = cut.within in
        ap (λ k. (get_or entries k d).halts.now) here ∙ sym (next d) ∙ cut.same at d within (omega arith) (omega arith)

-- the last run of a pattern ends it
pub cut_more : (feed : FeedRows) (entries : List RunWithHalts) (runs : List Run) (start at : ℕ) (patterns new : List Pattern) (pattern : Pattern) (own : List Halt) →
    runs ≡ entry_runs entries → at < length entries → IsCutTo feed entries start at patterns → goes_on entries at ≡ false → ((d : RunWithHalts) → own ≡ (get_or entries start d).halts.now) →
    IsPattern feed pattern → pattern.halts.items ≡ own → pattern.runs.items ≡ slice_range runs start (at + 1) → new ≡ patterns ++ pattern ∷ [] →
    IsCutTo feed entries (at + 1) (at + 1) new
cut_more feed entries runs start at patterns new pattern own is lt cut off own_is built has_halts has_runs pushed =
    subst (IsCutTo feed entries (at + 1) (at + 1)) (sym pushed) (record {
      built = All-push (IsPattern feed) patterns pattern cut.built built;
      all = flat_map-append (λ (p : Pattern). p.runs.items) patterns (pattern ∷ [])
          ∙ ap (λ rs. rs ++ (pattern.runs.items ++ [])) (cut.all ∙ ap (take start) (sym is))
          ∙ ap (λ rs. take start runs ++ rs) (append-nil pattern.runs.items ∙ has_runs)
          ∙ sym (cut_further runs start (at + 1) (omega (arith, cut.within)))
          ∙ ap (take (at + 1)) is;
      rises = all_pairs_push (λ (p : Pattern) (q : Pattern). halts_cmp p.halts.items q.halts.items ≡ Less) patterns pattern cut.rises
          (subst (λ ps. All (λ (p : Pattern). halts_cmp p.halts.items ps ≡ Less) patterns) (sym (has d)) (cut.before d inside));
      before = λ x below. All-push (λ (p : Pattern). halts_cmp p.halts.items (get_or entries (at + 1) x).halts.now ≡ Less) patterns pattern
          (λ k y within. halts_total.trans (get_or patterns k y).halts.items (get_or entries start x).halts.now (get_or entries (at + 1) x).halts.now (cut.before x inside k y within) (ahead x below)) (subst (λ ps. halts_cmp ps (get_or entries (at + 1) x).halts.now ≡ Less) (sym (has x)) (ahead x below));
      within = omega arith;
      same = λ j x low high below. let here : j ≡ at + 1 = omega arith in ap (λ k. (get_or entries k x).halts.now) here;
      last = λ e. refl;
    })
  where
    d : RunWithHalts
    d = (entry_at entries at lt).entry

    inside : start < length entries
    inside = let within = cut.within in omega arith

    has : (x : RunWithHalts) → pattern.halts.items ≡ (get_or entries start x).halts.now
    has x = has_halts ∙ own_is x

    ahead : (x : RunWithHalts) → at + 1 < length entries → halts_cmp (get_or entries start x).halts.now (get_or entries (at + 1) x).halts.now ≡ Less
    ahead x below =
        let within = cut.within in
        subst (λ ps. halts_cmp ps (get_or entries (at + 1) x).halts.now ≡ Less) (cut.same at x within (omega arith) lt)
        (less _ (not_false _ (sym (goes_on_is entries at x below) ∙ off)))

-- at first there is none
pub cut_none : (feed : FeedRows) (entries : List RunWithHalts) (patterns : List Pattern) → patterns ≡ [] → IsCutTo feed entries 0 0 patterns
cut_none feed entries patterns empty =
    subst (IsCutTo feed entries 0 0) (sym empty) (record {
      built = All-nil (IsPattern feed);
      all = refl;
      rises = λ i j d lt within. absurd (omega arith);
      before = λ d below. All-nil (λ (p : Pattern). halts_cmp p.halts.items (get_or entries 0 d).halts.now ≡ Less);
      within = omega arith;
      same = λ j d low high below. let is : j ≡ 0 = omega arith in ap (λ k. (get_or entries k d).halts.now) is;
      last = λ e. refl;
    })

-- and at the end all
pub cut_all : (feed : FeedRows) (entries : List RunWithHalts) (runs : List Run) (start at : ℕ) (patterns : List Pattern) → runs ≡ entry_runs entries → at ≡ length entries → IsCutTo feed entries start at patterns → AreCut feed runs patterns
cut_all feed entries runs start at patterns is end cut =
    let many = length-map entries (λ (entry : RunWithHalts). entry.run) in
    record {
      built = cut.built;
      all = cut.all ∙ take_all start (entry_runs entries) (let last = cut.last end in omega arith) ∙ sym is;
      apart = λ i j d lt within. unlike (get_or patterns i d).halts.items (get_or patterns j d).halts.items (cut.rises i j d lt within);
    }
