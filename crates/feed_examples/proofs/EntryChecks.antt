-- An entry is right where tests of its parts say so: for entries that are written out.
use Rattle.std.proofs.Common.{◌≡◌, ap, ◌-◌, Bool, true, false, length, arith}
use Rattle.std.specs.Prelude.{Option, Some, None, ℤ, pos, ◌+ℤ◌, int_le, nat_le, ◌&&◌, ◌==◌}
use Rattle.std.specs.List.{list_all}
use Rattle.std.proofs.lemmas.Bool.{and_parts}
use Rattle.std.proofs.lemmas.List.Sums.{AllPass-from_list_all}
use Rattle.std.proofs.lemmas.Bool.Decides.{nat_tests}
use Rattle.std.proofs.lemmas.Int.{ints}
use Rattle.feed_rows.specs.declared.journeys.Query.{Query}
use Rattle.feed_rows.specs.declared.fares.Entry.{Entry}
use Rattle.feed_rows.specs.FeedRows.{FeedRows}
use Rattle.plain_laws.specs.Plain.{all_below, filled_and, int_same}
use Rattle.feed_rows.specs.Rides.{is_ride}
use Rattle.feed_rows.specs.Journeys.{stands_for, catches_first, catches_next, final_arrival}
use Rattle.feed_rows.specs.JourneyEntries.{IsEntry, rides_price}
use Rattle.plain_laws.proofs.Laws.{all_below-at}

-- every part of the entry passes its test
unfoldable pub entry_test : FeedRows → Query → Entry → Bool
entry_test feed query entry =
    stands_for feed query.from entry.journey.first
    && stands_for feed query.to entry.journey.last
    && list_all (is_ride feed) entry.journey.rides
    && nat_le (length entry.journey.rides) query.rides
    && catches_first feed query entry.journey
    && all_below (length entry.journey.rides - 1) (catches_next feed entry.journey.rides)
    && filled_and (final_arrival feed query entry.journey) (int_same entry.triple.arrival.0)
    && int_le entry.triple.arrival.0 (query.departure.0 +ℤ pos query.window)
    && (entry.triple.rides == length entry.journey.rides)
    && filled_and (rides_price feed entry.journey.rides entry.choice query.buyer) (int_same entry.triple.price.0)

filled-is : (o : Option ℤ) (z : ℤ) → filled_and o (int_same z) ≡ true → o ≡ Some z
filled-is None z e = absurd (let no : false ≡ true = e in cc)
filled-is (Some y) z e = ap Some (grind (arith, ints, e))

-- an entry whose parts pass their tests is one of the query
pub entry-by-test : (feed : FeedRows) (query : Query) (entry : Entry) → entry_test feed query entry ≡ true → IsEntry feed query entry
unfolding entry_test
entry-by-test feed query entry e =
    let p1 = and_parts _ _ e in
    let p2 = and_parts _ _ p1.0 in
    let p3 = and_parts _ _ p2.0 in
    let p4 = and_parts _ _ p3.0 in
    let p5 = and_parts _ _ p4.0 in
    let p6 = and_parts _ _ p5.0 in
    let p7 = and_parts _ _ p6.0 in
    let p8 = and_parts _ _ p7.0 in
    let p9 = and_parts _ _ p8.0 in
    let few = p7.1 in
    let in_time = p3.1 in
    let count = p2.1 in
    record {
      journey = record {
        starts = p9.0;
        ends = p9.1;
        rides = AllPass-from_list_all (is_ride feed) entry.journey.rides p8.1;
        few = grind (arith, nat_tests, few);
        begins = p6.1;
        goes_on = λ i lt. all_below-at (length entry.journey.rides - 1) (catches_next feed entry.journey.rides) p5.1 i (omega arith);
        arrives = filled-is _ _ p4.1;
        in_time = grind (arith, ints, in_time);
      };
      rides = grind (arith, nat_tests, count);
      price = filled-is _ _ p1.1;
    }
