-- The texts of `gen` and the line of statistics, by examples.
use Rattle.std.proofs.Common.{ap, true, false, arith}
use Rattle.std.specs.Prelude.{◌≡◌, refl, ℕ, ◌==◌, if◌then◌else◌, List, [], ◌∷◌, ◌++◌, map, replicate, None, ℤ, pos, negsuc, codes}
use Rattle.std.specs.Fmt.{digits}
use Rattle.transit_base.specs.DateTexts.{time_text}
use Rattle.feed_rows.specs.MoneyText.{money_text}
use Rattle.commands.specs.CommandTexts.{stats_line}
use Rattle.feed_rows.specs.FeedRows.{FeedRows}
use Rattle.feed_rows.specs.GeneratedTexts.{triple_line, gen_line, gen_text, AreMinimalTriples}
use Rattle.feed_rows.specs.JourneyEntries.{IsMinimal}
use Rattle.feed_rows.specs.declared.fares.Triple.{Triple}
use Rattle.feed_examples.specs.BaseFeed.{base, platform, trip, call, on_the_day}
use Rattle.feed_examples.proofs.WorkedEntries.{morning, entry, with_walk, no_rides}
use Rattle.feed_examples.proofs.WorkedTexts.{day_is}

-- a text with `|` for each tab, as a line with its line feed
abbrev tabbed : List ℕ → List ℕ
tabbed [] = 10 ∷ []
tabbed (byte ∷ bytes) = (if byte == 124 then 9 else byte) ∷ tabbed bytes

-- a triple on 2025-06-02
abbrev triple : ℕ → ℕ → ℤ → Triple
triple time rides price = record { arrival = record { 0 = pos (on_the_day time) }; rides = rides; price = record { 0 = price } }

-- a feed with as many rows as that of 2 lines
abbrev of_two_lines : FeedRows
of_two_lines =
    record base {
      stops = replicate 4 (platform (codes "s"));
      routes = replicate 4 (record { id = codes "r"; network = None });
      trips = replicate 96 (trip (codes "t") 0);
      stop_times = replicate 192 (call 0 0 1 0);
    }

-- the text of the seed 7 with 2 lines
text_of_two :
    gen_text of_two_lines (triple 26_085 2 (pos 170) ∷ triple 33_642 2 (pos 100) ∷ [])
    ≡ tabbed (codes "gen|4|4|96|192") ++ tabbed (codes "triple|2025-06-02 07:14:45|2|1.70")
    ++ tabbed (codes "triple|2025-06-02 09:20:42|2|1.00")
unfolding digits triple_line money_text time_text
text_of_two = rw day_is refl

-- the counts stand in the order stops, routes, trips, stop times; no triple has no line; a negative price; no decimals
gen_lines :
    (gen_line base ≡ tabbed (codes "gen|3|2|3|6")) × (gen_text base [] ≡ tabbed (codes "gen|3|2|3|6"))
    × (triple_line base (triple 0 0 (negsuc 29)) ≡ tabbed (codes "triple|2025-06-02 00:00:00|0|-0.30"))
    × (triple_line (record base { decimals = 0 }) (triple 86_399 4 (pos 350))
    ≡ tabbed (codes "triple|2025-06-02 23:59:59|4|350"))
unfolding digits triple_line money_text time_text
gen_lines = rw day_is (refl, refl, refl, refl)

-- how many labels there are
stats_lines : map stats_line (1 ∷ 4 ∷ 120 ∷ []) ≡ tabbed (codes "stats|1") ∷ tabbed (codes "stats|4")
    ∷ tabbed (codes "stats|120") ∷ []
unfolding digits
stats_lines = refl

-- ---- the triples of an answer

-- no list of triples is right that is empty where a triple is minimal, or that has one twice
no_triples : (t : Triple) → IsMinimal base morning t → AreMinimalTriples base morning [] → ⊥
no_triples t minimal are = let has = are.complete t minimal in let lt = has.1 in omega (arith, lt)

triple_twice : AreMinimalTriples base morning (triple 32_400 1 (pos 250) ∷ triple 32_400 1 (pos 250) ∷ []) → ⊥
triple_twice are =
    let no : false ≡ true = are.in_order 0 1 (triple 0 0 (pos 0)) (omega arith) (omega arith) in
    absurd (cc)

-- nor one that has a triple which another is at most: a walk of an hour costs nothing and arrives with T3
triple_outdone : AreMinimalTriples with_walk morning (triple 32_400 1 (pos 250) ∷ []) → ⊥
triple_outdone are =
    let passed = entry 0 2 32400 0 (pos 0) [] [] [] in
    let same = (are.minimal 0 (triple 0 0 (pos 0)) (omega arith)).least passed.triple (passed, no_rides.1, refl) refl in
    let rides : 0 ≡ 1 = ap (λ (t : Triple). t.rides) same in
    omega (arith, rides)
