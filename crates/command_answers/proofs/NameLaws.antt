-- Rides that are read one by one from their words, and the first that isn't caught from the one before.
use Rattle.std.proofs.Common.{◌≡◌, refl, sym, ◌∙◌, ap, subst, ℕ, zero, suc, ◌+◌, ◌-◌, ◌<◌, ◌≤◌, Bool, true, false, not, List, [], ◌∷◌, ◌++◌, length, get_or, Option, Some, None, arith}
use Rattle.std.specs.Prelude.{Ok, Err, is_none, slice_get}
use Rattle.std.proofs.lemmas.List.{map-append, length-map, length_push}
use Rattle.std.proofs.lemmas.List.Elements.{All-push}
use Rattle.std.proofs.lemmas.Option.{slice_get_within, slice_get-get_or}
use Rattle.feed_rows.specs.FeedRows.{FeedRows}
use Rattle.commands.specs.NumberedItems.{read_at}
use Rattle.commands.specs.PriceQueries.{named_ride, named_rides}
use Rattle.feed_rows.specs.Rides.{ride_facts}
use Rattle.feed_rows.specs.RideWords.{RideWord}
use Rattle.feed_rows.specs.declared.journeys.Ride.{Ride}
use Rattle.commands.specs.declared.usage.UsageFault.TheVariants as usage
use Rattle.plain_laws.specs.Plain.{collect_below, find_below}
use Rattle.plain_laws.proofs.Laws.{find_below_hit, find_below_found, find_below_next, IsCollected, collect_below_tells, collect_below_more}
use Rattle.feed_rows.specs.Journeys.{is_caught, catches_next}
use Rattle.feed_rows.specs.StopLinks.{link}
use Rattle.commands.specs.PriceQueries.{first_missed}
use Rattle.command_answers.proofs.LegLaws.{facts_known}
use Rattle.command_answers.specs.declared.ride_prices.rides.NamedRide.{NamedRide}
use Rattle.command_answers.specs.NamedRides.{rides_of, AreKnown}

-- the first so many words name these rides, and it is known where they go
pub record AreNamed (feed : FeedRows) (words : List RideWord) (n : ℕ) (named : List NamedRide) : Type 0 where
  pub rides : collect_below n (read_at (named_ride feed) words) ≡ Some (rides_of named)
  pub known : AreKnown feed named
  pub many : length named ≡ n

-- the ride that a word names, in its place among the words
at_word : (feed : FeedRows) (words : List RideWord) (k : ℕ) (word : RideWord) → slice_get words k ≡ Some word
    → read_at (named_ride feed) words k ≡ named_ride feed word
at_word feed words k word at = rw at refl

-- one ride more
pub one_more_named : (feed : FeedRows) (words : List RideWord) (k : ℕ) (word : RideWord) (before now : List NamedRide) (named : NamedRide)
    → AreNamed feed words k before → slice_get words k ≡ Some word → Some named.ride ≡ named_ride feed word
    → ride_facts feed named.ride ≡ Some named.facts → now ≡ before ++ named ∷ [] → AreNamed feed words (k + 1) now
one_more_named feed words k word before now named were at is facts made =
    let many = were.many in
    record {
      rides =
          collect_below_more k (read_at (named_ride feed) words) (rides_of before) named.ride were.rides (at_word feed words k word at ∙ sym is)
          ∙ ap Some (sym (map-append (λ (n : NamedRide). n.ride) before (named ∷ []))) ∙ ap (λ (xs : List NamedRide). Some (rides_of xs)) (sym made);
      known = subst (AreKnown feed) (sym made) (All-push (λ (n : NamedRide). ride_facts feed n.ride ≡ Some n.facts) before named were.known facts);
      many = rw made (longer before named many);
    }
  where
    longer : (xs : List NamedRide) (x : NamedRide) → length xs ≡ k → length (xs ++ x ∷ []) ≡ k + 1
    longer xs x e = rw (length_push xs x) (omega (arith, e))

-- all words name rides
pub all_named : (feed : FeedRows) (words : List RideWord) (named : List NamedRide) → AreNamed feed words (length words) named
    → named_rides feed words ≡ Ok (rides_of named)
all_named feed words named are = rw are.rides refl

-- a place before the end isn't past it
not_past : (rides : List Ride) (i : ℕ) → i < length rides → slice_get rides i ≡ None → ⊥
not_past [] i lt e = absurd (omega arith)
not_past (ride ∷ rides) zero lt e = absurd (cc)
not_past (ride ∷ rides) (suc i) lt e = not_past rides i (omega arith) e

-- the first that names none
pub first_unnamed : (feed : FeedRows) (words : List RideWord) (k : ℕ) (word : RideWord) (before : List NamedRide) → AreNamed feed words k before
    → slice_get words k ≡ Some word → named_ride feed word ≡ None → named_rides feed words ≡ Err (usage.NoSuchRide (k + 1))
first_unnamed feed words k word before were at none = rw (missing (collect_below (length words) read) refl, first) refl
  where
    read : ℕ → Option Ride
    read = read_at (named_ride feed) words

    here : read k ≡ None
    here = at_word feed words k word at ∙ none

    lt : k < length words
    lt = slice_get_within words k word at

    tells : IsCollected k read (rides_of before)
    tells = collect_below_tells k read (rides_of before) were.rides

    is_there : (i : ℕ) (o : Option Ride) → read i ≡ o → (o ≡ None → ⊥) → is_none (read i) ≡ false
    is_there i None e some = absurd (some refl)
    is_there i (Some ride) e some = rw e refl

    earlier : (i : ℕ) → i < k → is_none (read i) ≡ false
    earlier i less =
        let long = tells.length_is in
        is_there i (read i) refl (λ e. not_past (rides_of before) i (omega (arith, long, less)) (tells.items i less ∙ e))

    first : find_below (length words) (λ i. is_none (read i)) ≡ Some k
    first = find_below_hit (λ i. is_none (read i)) (length words) k (record { within = lt; passes = rw here refl; earlier = earlier })

    missing : (o : Option (List Ride)) → collect_below (length words) read ≡ o → collect_below (length words) read ≡ None
    missing None e = e
    missing (Some rides) e =
        let all = collect_below_tells (length words) read rides e in
        absurd (let got = all.items k lt in let long = all.length_is in not_past rides k (omega (arith, long, lt)) (got ∙ here))

-- ---- rides that are caught

-- whether a known ride is caught from the one before, by their places
pub caught_at : (feed : FeedRows) (named : List NamedRide) (k : ℕ) (before after : NamedRide) → AreKnown feed named
    → slice_get named k ≡ Some before → slice_get named (k + 1) ≡ Some after
    → catches_next feed (rides_of named) k ≡ is_caught before.facts.arrival.0 (link feed before.facts.to after.facts.from) after.facts
caught_at feed named k before after known at next =
    let first = facts_known feed named k before known at in
    let second = facts_known feed named (k + 1) after known next in
    rw (first, second) refl

module _ (feed : FeedRows) (named : List NamedRide) where
  abbrev pub is_missed : ℕ → Bool
  is_missed k = not (catches_next feed (rides_of named) k)

  -- whether a ride is missed, by the test of the two
  pub missed_at : (i : ℕ) (d e : NamedRide) (b : Bool) → AreKnown feed named → 1 ≤ i → i < length named
      → b ≡ is_caught (get_or named (i - 1) d).facts.arrival.0 (link feed (get_or named (i - 1) d).facts.to (get_or named i e).facts.from) (get_or named i e).facts
      → is_missed (i - 1) ≡ not b
  missed_at i d e b known one lt is =
      let same : i ≡ i - 1 + 1 = omega arith in
      let next = subst (λ n. slice_get named n ≡ Some (get_or named i e)) same (slice_get-get_or named i e lt) in
      ap not (caught_at feed named (i - 1) (get_or named (i - 1) d) (get_or named i e) known (slice_get-get_or named (i - 1) d (omega arith)) next
      ∙ sym is)

  last_is : length (rides_of named) - 1 ≡ length named - 1
  last_is = ap (λ n. n - 1) (length-map named (λ (n : NamedRide). n.ride))

  -- the first that is missed
  pub missed_found : (i : ℕ) → 1 ≤ i → i < length named → find_below (i - 1) is_missed ≡ None → is_missed (i - 1) ≡ true
      → first_missed feed (rides_of named) ≡ Some (i - 1)
  missed_found i one lt none missed =
      ap (λ n. find_below n is_missed) last_is ∙ find_below_found is_missed (length named - 1) (i - 1) (omega arith) none missed

  -- one more that isn't
  pub missed_next : (i : ℕ) → 1 ≤ i → find_below (i - 1) is_missed ≡ None → is_missed (i - 1) ≡ false → find_below (i + 1 - 1) is_missed ≡ None
  missed_next i one none caught =
      let same : i + 1 - 1 ≡ i - 1 + 1 = omega arith in
      ap (λ n. find_below n is_missed) same ∙ find_below_next is_missed (i - 1) none caught
