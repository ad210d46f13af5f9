-- What loops over rides and lines carry.
use Rattle.std.proofs.Common.{◌≡◌, refl, sym, ◌∙◌, ap, subst, ℕ, zero, suc, ◌+◌, ◌-◌, ◌<◌, ◌≤◌, ◌⊎◌, inl, inr, List, [], ◌∷◌, ◌++◌, length, take, drop, Option, Some, None, arith, add-one, append_assoc, get_or, ◌==◌}
use Rattle.std.specs.Prelude.{slice_get, option_map}
use Rattle.std.specs.List.{concat}
use Rattle.std.proofs.lemmas.Bool.{cases_lt}
use Rattle.std.proofs.lemmas.List.{length-take-le, take-append-drop, append-nil}
use Rattle.std.proofs.lemmas.List.Splits.{length-slice_split}
use Rattle.std.proofs.lemmas.Option.{none-some, same_Some, slice_get_within, slice_get-get_or, unwrap_or-slice_get}
use Rattle.feed_rows.specs.FeedRows.{FeedRows}
use Rattle.feed_rows.specs.Journeys.{facts_at}
use Rattle.feed_rows.specs.JourneyStands.{Stand, first_stand, next_stand, stand_after}
use Rattle.feed_rows.specs.Legs.{leg_facts, legs_of}
use Rattle.feed_rows.specs.Rides.{ride_facts}
use Rattle.feed_rows.specs.declared.journeys.LegFacts.{LegFacts}
use Rattle.feed_rows.specs.declared.journeys.Query.{Query}
use Rattle.feed_rows.specs.declared.journeys.Ride.{Ride}
use Rattle.feed_rows.specs.declared.journeys.RideFacts.{RideFacts}
use Rattle.transit_base.specs.declared.numbers.StopId.{StopId}
use Rattle.plain_laws.specs.Plain.{after, after_first, collect_below, given, given_last}
use Rattle.line_cuts.specs.Cuts.{line_parts, field}
use Rattle.ticket_read.specs.Readings.{start, closed, read_line, read_entries}
use Rattle.ticket_read.specs.declared.reader.Reading.{Reading}
use Rattle.plain_laws.proofs.Laws.{after_first-append, after_first-all, collect_below_tells, collect_below_more}

-- ---- steps

-- steps that can't all be made can't be made with more
pub stays_none : {S R : Type 0} (next : S → R → Option S) (s : S) (rs : List R) (k m : ℕ) → after_first next s rs k ≡ None → k ≤ m → after_first next s rs m ≡ None
stays_none next s rs k zero none le = let same : k ≡ 0 = omega arith in rw same at none
stays_none {S} {R} next s rs k (suc m) none le = by (λ below. stays_none next s rs k m none below) (cases_lt m k)
  where
    by : (k ≤ m → after_first next s rs m ≡ None) → (m < k) ⊎ (k ≤ m) → after_first next s rs (suc m) ≡ None
    by rest (inl past) = let same : k ≡ suc m = omega arith in rw same at none
    by rest (inr below) = let before = rest below in rw before refl

-- one step more
pub one_step : {S R : Type 0} (next : S → R → Option S) (s : S) (rs : List R) (k : ℕ) (before : S) (r : R) → after_first next s rs k ≡ Some before → slice_get rs k ≡ Some r
    → after_first next s rs (k + 1) ≡ next before r
one_step next s rs k before r was got = rw (add-one, was, got) refl

-- the first so many steps are those of the first part of the list
pub first_part : {S R : Type 0} (next : S → R → Option S) (s : S) (rs : List R) (n : ℕ) → n ≤ length rs → after_first next s rs n ≡ after next s (take n rs)
first_part next s rs n le =
    let long = length-take-le n rs le in
    ap (λ xs. after_first next s xs n) (sym (take-append-drop n rs))
    ∙ after_first-append next s (take n rs) (drop n rs) n (omega (arith, long))
    ∙ ap (after_first next s (take n rs)) (sym long) ∙ after_first-all next s (take n rs)

-- ---- legs

-- the legs of the first rides
abbrev pub AreLegsBelow : FeedRows → List Ride → ℕ → List LegFacts → Type 0
AreLegsBelow feed rides n legs = collect_below n (λ i. option_map (leg_facts feed) (facts_at feed rides i)) ≡ Some legs

facts_there : (feed : FeedRows) (rides : List Ride) (k : ℕ) (ride : Ride) → slice_get rides k ≡ Some ride → facts_at feed rides k ≡ ride_facts feed ride
facts_there feed rides k ride got = rw got refl

pub one_leg_more : (feed : FeedRows) (rides : List Ride) (k : ℕ) (ride : Ride) (facts : RideFacts) (before now : List LegFacts) (leg : LegFacts)
    → slice_get rides k ≡ Some ride → Some facts ≡ ride_facts feed ride → AreLegsBelow feed rides k before → leg ≡ leg_facts feed facts → now ≡ before ++ leg ∷ []
    → AreLegsBelow feed rides (k + 1) now
one_leg_more feed rides k ride facts before now leg got are were is made =
    let here : option_map (leg_facts feed) (facts_at feed rides k) ≡ Some leg =
    ap (option_map (leg_facts feed)) (facts_there feed rides k ride got ∙ sym are) ∙ ap Some (sym is) in
    collect_below_more k (λ i. option_map (leg_facts feed) (facts_at feed rides i)) before leg were here ∙ ap Some (sym made)

-- all rides have legs
pub all_legs : (feed : FeedRows) (rides : List Ride) (n : ℕ) (legs : List LegFacts) → AreLegsBelow feed rides n legs → n ≡ length rides → Some legs ≡ legs_of feed rides
unfolding legs_of
all_legs feed rides n legs are same = sym (rw same at are)

-- a ride that is none of the feed has none
pub no_legs : (feed : FeedRows) (rides : List Ride) (k : ℕ) (ride : Ride) → slice_get rides k ≡ Some ride → None ≡ ride_facts feed ride → None ≡ legs_of feed rides
unfolding legs_of
no_legs feed rides k ride got none = by (collect_below (length rides) (λ i. option_map (leg_facts feed) (facts_at feed rides i))) refl
  where
    here : option_map (leg_facts feed) (facts_at feed rides k) ≡ None
    here = ap (option_map (leg_facts feed)) (facts_there feed rides k ride got ∙ sym none)

    item : (xs : List LegFacts) (i : ℕ) → i < length xs → slice_get xs i ≡ None → ⊥
    item [] i lt e = absurd (omega arith)
    item (x ∷ xs) zero lt e = absurd (cc)
    item (x ∷ xs) (suc i) lt e = item xs i (omega arith) e

    by : (o : Option (List LegFacts)) → collect_below (length rides) (λ i. option_map (leg_facts feed) (facts_at feed rides i)) ≡ o → None ≡ o
    by None e = refl
    by (Some legs) e =
        let tells = collect_below_tells (length rides) (λ i. option_map (leg_facts feed) (facts_at feed rides i)) legs e in
        let long = tells.length_is in
        let lt = slice_get_within rides k ride got in
        absurd (item legs k (omega (arith, long, lt)) (tells.items k lt ∙ here))

-- there is a leg for each ride
pub legs_many : (feed : FeedRows) (rides : List Ride) (legs : List LegFacts) → Some legs ≡ legs_of feed rides → length legs ≡ length rides
unfolding legs_of
legs_many feed rides legs is = (collect_below_tells (length rides) _ legs (sym is)).length_is

-- ---- lines

-- the bytes of one line more
pub one_line_more : (lines : List (List ℕ)) (k : ℕ) (line : List ℕ) → slice_get lines k ≡ Some line → concat (take (k + 1) lines) ≡ concat (take k lines) ++ line
one_line_more lines k line got = rw add-one (next lines k got)
  where
    next : (ls : List (List ℕ)) (k : ℕ) → slice_get ls k ≡ Some line → concat (take (suc k) ls) ≡ concat (take k ls) ++ line
    next [] k e = absurd (none-some line e)
    next (l ∷ ls) zero e = append-nil l ∙ same_Some l line e
    next (l ∷ ls) (suc k) e = ap (λ (rest : List ℕ). l ++ rest) (next ls k e) ∙ sym (append_assoc l (concat (take k ls)) line)

-- ---- where one stands

-- a ride more is caught
pub stand_gone : (feed : FeedRows) (query : Query) (first : StopId) (rides kept : List Ride) (k : ℕ) (before next : Stand) (d : Ride) → kept ≡ rides → k < length kept
    → stand_after feed query first rides k ≡ Some before → Some next ≡ next_stand feed query before (get_or kept k d) → stand_after feed query first rides (k + 1) ≡ Some next
stand_gone feed query first rides kept k before next d same lt was is =
    let got = subst (λ (rs : List Ride). slice_get rs k ≡ Some (get_or kept k d)) same (slice_get-get_or kept k d lt) in
    one_step (next_stand feed query) (first_stand query first) rides k before (get_or kept k d) was got ∙ sym is

-- a ride isn't caught, so one stands nowhere after all
pub stand_missed : (feed : FeedRows) (query : Query) (first : StopId) (rides kept : List Ride) (k : ℕ) (before : Stand) (d : Ride) → kept ≡ rides → k < length kept
    → stand_after feed query first rides k ≡ Some before → None ≡ next_stand feed query before (get_or kept k d) → None ≡ stand_after feed query first rides (length rides)
stand_missed feed query first rides kept k before d same lt was none =
    let got = subst (λ (rs : List Ride). slice_get rs k ≡ Some (get_or kept k d)) same (slice_get-get_or kept k d lt) in
    let within = subst (λ (rs : List Ride). k < length rs) same lt in
    sym (stays_none (next_stand feed query) (first_stand query first) rides (k + 1) (length rides)
    (one_step (next_stand feed query) (first_stand query first) rides k before (get_or kept k d) was got ∙ sym none) (omega (arith, within)))

-- ---- a text, line by line

-- what is read of a text, by the parts that line feeds part
pub parts_read : (feed : FeedRows) (query : Query) (text : List ℕ) (parts : List (List ℕ)) → parts ≡ line_parts text
    → read_entries feed query text ≡ given (after_first (read_line feed query) start parts (length parts - 1)) (λ reading. given_last (closed feed query reading) (λ last. last.done))
unfolding read_entries
parts_read feed query text parts same =
    ap (λ (o : Option Reading). given o (λ reading. given_last (closed feed query reading) (λ last. last.done)))
    (ap (λ (ps : List (List ℕ)). after (read_line feed query) start (take (length ps - 1) ps)) (sym same)
    ∙ sym (first_part (read_line feed query) start parts (length parts - 1) (omega arith)))

pub parts_some : (text : List ℕ) (parts : List (List ℕ)) → parts ≡ line_parts text → 1 ≤ length parts
parts_some text parts same = let long = length-slice_split (λ b. b == 10) text in let also = ap length same in omega (arith, long, also)

-- a part that is looked up by its place
pub part_there : (parts kept : List (List ℕ)) (i : ℕ) (line : List ℕ) → kept ≡ parts → line ≡ field kept i → i < length parts → slice_get parts i ≡ Some line
part_there parts kept i line same is lt =
    let here = is ∙ ap (λ (ps : List (List ℕ)). field ps i) same ∙ unwrap_or-slice_get parts i [] in
    slice_get-get_or parts i [] lt ∙ ap Some (sym here)

-- a line more is read
pub line_gone : (feed : FeedRows) (query : Query) (parts : List (List ℕ)) (k : ℕ) (before next : Reading) (line : List ℕ) → 1 ≤ k → slice_get parts (k - 1) ≡ Some line
    → after_first (read_line feed query) start parts (k - 1) ≡ Some before → Some next ≡ read_line feed query before line
    → after_first (read_line feed query) start parts (k + 1 - 1) ≡ Some next
line_gone feed query parts k before next line some got was is =
    let same : k + 1 - 1 ≡ k - 1 + 1 = omega arith in
    ap (after_first (read_line feed query) start parts) same ∙ one_step (read_line feed query) start parts (k - 1) before line was got ∙ sym is

-- a line isn't read, so nothing is
pub line_missed : (feed : FeedRows) (query : Query) (text : List ℕ) (parts : List (List ℕ)) (k : ℕ) (before : Reading) (line : List ℕ) → parts ≡ line_parts text → 1 ≤ k → k < length parts
    → slice_get parts (k - 1) ≡ Some line → after_first (read_line feed query) start parts (k - 1) ≡ Some before → None ≡ read_line feed query before line
    → None ≡ read_entries feed query text
line_missed feed query text parts k before line same some lt got was none =
    let stays = stays_none (read_line feed query) start parts (k - 1 + 1) (length parts - 1)
    (one_step (read_line feed query) start parts (k - 1) before line was got ∙ sym none) (omega arith) in
    sym (parts_read feed query text parts same ∙ ap (λ (o : Option Reading). given o (λ reading. given_last (closed feed query reading) (λ last. last.done))) stays)

-- all lines are read
pub all_gone : (feed : FeedRows) (query : Query) (text : List ℕ) (parts : List (List ℕ)) (k : ℕ) (reading : Reading) → parts ≡ line_parts text → length parts ≤ k → k ≤ length parts
    → after_first (read_line feed query) start parts (k - 1) ≡ Some reading → read_entries feed query text ≡ given_last (closed feed query reading) (λ last. last.done)
all_gone feed query text parts k reading same past within was =
    let end : k ≡ length parts = omega arith in
    parts_read feed query text parts same
    ∙ ap (λ (o : Option Reading). given o (λ reading. given_last (closed feed query reading) (λ last. last.done))) (ap (λ n. after_first (read_line feed query) start parts (n - 1)) (sym end) ∙ was)
