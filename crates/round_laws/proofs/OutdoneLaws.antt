-- What a triple outdoes, it outdoes along rides and wherever it is covered, and it betters all that this leads to. So
-- what a search may lack stays so.
use Rattle.std.proofs.Common.{◌≡◌, refl, sym, ◌∙◌, ℕ, zero, suc, ◌+◌, ◌-◌, ◌≤◌, Bool, true, false, arith, ℤ, pos, ◌+ℤ◌, ◌≤ℤ◌}
use Rattle.std.specs.Prelude.{◌||◌, if◌then◌else◌, is_none, ◌*ℤ◌}
use Rattle.std.specs.Int.{int_min}
use Rattle.std.proofs.lemmas.Int.{ints}
use Rattle.feed_rows.specs.declared.fares.Triple.{Triple}
use Rattle.feed_rows.specs.declared.journeys.Query.{Query}
use Rattle.feed_rows.specs.declared.journeys.Ride.{Ride}
use Rattle.feed_rows.specs.declared.states.Move.{Move}
use Rattle.feed_rows.specs.FareFloor.{fare_floor, is_outdone, least_so_far}
use Rattle.feed_rows.specs.FeedRows.{FeedRows}
use Rattle.feed_rows.specs.LabelCover.{Covers, price_so_far}
use Rattle.feed_rows.specs.ParetoTriples.{at_most}
use Rattle.feed_rows.specs.PartialJourneys.{LabelFacts}
use Rattle.feed_rows.specs.SoundFeed.{IsSoundFeed}
use Rattle.fare_laws.proofs.FloorLaws.{floor_below, min_second}
use Rattle.search_laws.specs.Cuts.{AreCuts, MayLack}
use Rattle.search_laws.specs.Ways.{IsUpward, LeadsBy}
use Rattle.round_laws.specs.Futility.{some_takes_back, least_price, least_end, is_within, outdoes}
use Rattle.round_laws.specs.LabelSteps.{IsLabelStep, ways}
use Rattle.round_laws.proofs.BoundLaws.{ahead_tells, ahead_passes, ahead_after, ahead_leads}
use Rattle.round_laws.proofs.IntLaws.{as_much, no_more}

-- ---- how little can follow

-- with the same to add the lesser stays so
added : (x y z : ℤ) → x ≤ℤ y → (x +ℤ z) ≤ℤ (y +ℤ z)
added x y z le = omega (arith, ints, le)

-- after more rides no less of the floor can follow
more_rides : (floor : ℤ) (n d : ℕ) → floor ≤ℤ pos 0 → (floor *ℤ pos (n + d)) ≤ℤ (floor *ℤ pos n)
more_rides floor n zero le =
    let same : floor *ℤ pos (n + 0) ≡ floor *ℤ pos n = omega (arith, ints) in
    omega (arith, ints, same)
more_rides floor n (suc d) le =
    let less = more_rides floor n d le in
    let next : floor *ℤ pos (n + suc d) ≡ (floor *ℤ pos (n + d)) +ℤ floor = omega (arith, ints) in
    omega (arith, ints, less, le, next)

floor_after : (floor : ℤ) (limit m n : ℕ) → floor ≤ℤ pos 0 → m ≤ n →
    (floor *ℤ pos (limit - m)) ≤ℤ (floor *ℤ pos (limit - n))
floor_after floor limit m n below le = by ((limit - m) - (limit - n)) (omega (arith, le))
  where
    by : (d : ℕ) → limit - m ≡ (limit - n) + d → (floor *ℤ pos (limit - m)) ≤ℤ (floor *ℤ pos (limit - n))
    by d is = rw is (more_rides floor (limit - n) d below)

-- what is covered costs no less
least_covered : (a b : LabelFacts) → Covers a b → least_so_far a ≤ℤ least_so_far b
least_covered a b c = by a.paid b.paid (price_so_far a) (price_so_far b) c.spent.paid c.spent.price
  where
    by : (x x' y y' : ℤ) → x ≤ℤ x' → y ≤ℤ y' → int_min x y ≤ℤ int_min x' y'
    by x x' y y' p q = grind (arith, ints, p, q)

end_covered : (feed : FeedRows) (query : Query) (a b : LabelFacts) → Covers a b →
    least_end feed query true a ≤ℤ least_end feed query true b
unfolding least_end
end_covered feed query a b c =
    both (least_so_far a) (least_so_far b) (fare_floor feed query.buyer *ℤ pos (query.rides - a.rides))
    (fare_floor feed query.buyer *ℤ pos (query.rides - b.rides)) (least_covered a b c)
    (floor_after (fare_floor feed query.buyer) query.rides a.rides b.rides (floor_below feed query.buyer) c.rides)
  where
    both : (x y z w : ℤ) → x ≤ℤ y → z ≤ℤ w → (x +ℤ z) ≤ℤ (y +ℤ w)
    both x y z w p q = omega (arith, ints, p, q)

-- where what is held may be taken back, the bound is no greater
end_lower : (feed : FeedRows) (query : Query) (whole : Bool) (a : LabelFacts) →
    least_end feed query true a ≤ℤ least_end feed query whole a
unfolding least_end
end_lower feed query whole a =
    added (least_so_far a) (least_price feed whole a) (fare_floor feed query.buyer *ℤ pos (query.rides - a.rides))
    (by ((whole || some_takes_back feed) || is_none a.state))
  where
    by : (b : Bool) → least_so_far a ≤ℤ (if b then least_so_far a else price_so_far a)
    by true = as_much (least_so_far a)
    by false = min_second a.paid (price_so_far a)

-- ---- a triple that outdoes

module _ (feed : FeedRows) (query : Query) (triple : Triple) where
  abbrev Outdoes : LabelFacts → Type 0
  Outdoes a = is_outdone feed query triple a ≡ true

  -- it is a triple that is ahead, by the bound of a search that is to be whole
  outdone_is : (a : LabelFacts) →
      is_outdone feed query triple a ≡ is_within a.arrival a.rides (least_end feed query true a) triple
  unfolding is_outdone least_end
  outdone_is a = refl

  pub outdone_of_ahead : (a : LabelFacts) → is_within a.arrival a.rides (least_end feed query true a) triple ≡ true →
      Outdoes a
  outdone_of_ahead a ahead = outdone_is a ∙ ahead

  -- so it outdoes whatever goes on from what it outdoes
  pub outdone_after : (a b : LabelFacts) (ride : Ride) (move : Move) → IsSoundFeed feed →
      IsLabelStep feed query a ride move b →
      Outdoes a → Outdoes b
  outdone_after a b ride move sound step is =
      outdone_of_ahead b (ahead_after feed query true sound triple a b ride move step (sym (outdone_is a) ∙ is))

  -- and whatever that covers
  pub outdone_below : (a b : LabelFacts) → Covers a b → Outdoes a → Outdoes b
  outdone_below a b covers is =
      let t = ahead_tells _ _ _ triple (sym (outdone_is a) ∙ is) in
      outdone_of_ahead b (ahead_passes _ _ _ triple (record {
        arrival = no_more _ _ _ t.arrival covers.arrival;
        few = let few = t.few in let more = covers.rides in omega (arith, few, more);
        cheap = no_more _ _ _ t.cheap (end_covered feed query a b covers);
      }))

  -- it betters all that rides lead to from there
  pub outdone_leads : (n : ℕ) (a : LabelFacts) (other : Triple) → IsSoundFeed feed → Outdoes a →
      LeadsBy (ways feed query) n a other →
      at_most triple other ≡ true
  outdone_leads n a other sound is leads = ahead_leads feed query true sound triple n a other
      (sym (outdone_is a) ∙ is) leads

  -- a triple that is at most it is ahead too, by the bound of any search
  pub ahead_of_outdone : (whole : Bool) (less : Triple) (a : LabelFacts) → at_most less triple ≡ true → Outdoes a →
      is_within a.arrival a.rides (least_end feed query whole a) less ≡ true
  ahead_of_outdone whole less a below is =
      let t = ahead_tells _ _ _ triple (sym (outdone_is a) ∙ is) in
      let l = ahead_tells triple.arrival.0 triple.rides triple.price.0 less below in
      ahead_passes _ _ _ less (record {
        arrival = no_more _ _ _ l.arrival t.arrival;
        few = let few = t.few in let fewer = l.few in omega (arith, few, fewer);
        cheap = no_more _ _ _ (no_more _ _ _ l.cheap t.cheap) (end_lower feed query whole a);
      })

-- so it outdoes too
pub outdone_up : (feed : FeedRows) (query : Query) (less triple : Triple) (a : LabelFacts) →
    at_most less triple ≡ true →
    is_outdone feed query triple a ≡ true → is_outdone feed query less a ≡ true
outdone_up feed query less triple a below is =
    outdone_of_ahead feed query less a (ahead_of_outdone feed query triple true less a below is)

-- ---- what may be lacking

-- what is outdone is cut off
pub outdone_cuts : (feed : FeedRows) (query : Query) → IsSoundFeed feed → AreCuts (ways feed query) (outdoes feed query)
outdone_cuts feed query sound = record {
  after = λ triple a b ride move step outdone. outdone_after feed query triple a b ride move sound step outdone;
  below = λ triple a b covers outdone. outdone_below feed query triple a b covers outdone;
  leads = λ triple n a other outdone leads. outdone_leads feed query triple n a other sound outdone leads;
}

-- what a triple that is found is ahead of may be lacking
pub ahead_lacks : (feed : FeedRows) (query : Query) → IsSoundFeed feed → (FoundTriple : Triple → Type 0) →
    IsUpward (ways feed query) FoundTriple → (whole : Bool) (triple : Triple) (a : LabelFacts) → FoundTriple triple →
    is_within a.arrival a.rides (least_end feed query whole a) triple ≡ true →
    MayLack (ways feed query) (outdoes feed query) whole FoundTriple a
ahead_lacks feed query sound FoundTriple upward true triple a found ahead =
    (triple, found, outdone_of_ahead feed query triple a ahead)
ahead_lacks feed query sound FoundTriple upward false triple a found ahead =
    λ n other leads. upward triple other (ahead_leads feed query false sound triple n a other ahead leads) found
