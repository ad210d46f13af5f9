-- When a search needn't go on, since all that it can come to is found already.
use Rattle.std.specs.Prelude.{ℕ, ◌-◌, Bool, ◌&&◌, ◌||◌, ◌==◌, if◌then◌else◌, nat_le, int_le, is_none, ℤ, pos, ◌+ℤ◌, ◌*ℤ◌, IsTrue}
use Rattle.std.specs.List.{list_any}
use Rattle.feed_rows.specs.declared.fares.Triple.{Triple}
use Rattle.feed_rows.specs.declared.journeys.Query.{Query}
use Rattle.feed_rows.specs.Codes.{change_alone}
use Rattle.feed_rows.specs.FareFloor.{fare_floor, is_outdone, least_so_far}
use Rattle.feed_rows.specs.FeedRows.{FeedRows}
use Rattle.feed_rows.specs.LabelCover.{price_so_far}
use Rattle.feed_rows.specs.PartialJourneys.{LabelFacts}

-- a triple outdoes such facts
abbrev pub outdoes : FeedRows → Query → Triple → LabelFacts → Type 0
outdoes feed query triple a = IsTrue (is_outdone feed query triple a)

-- ---- how little it can cost

-- some change takes back what a leg before it cost
unfoldable pub some_takes_back : FeedRows → Bool
some_takes_back feed = list_any (λ row. row.kind == change_alone) feed.transfer_rules

-- the least price that a continuation can start from: but for a search that is to be whole, what is held counts where
-- nothing takes it back
abbrev pub least_price : FeedRows → Bool → LabelFacts → ℤ
least_price feed whole a =
    if (whole || some_takes_back feed) || is_none a.state then least_so_far a else price_so_far a

-- the least price at a journey's end
unfoldable pub least_end : FeedRows → Query → Bool → LabelFacts → ℤ
least_end feed query whole a =
    least_price feed whole a +ℤ (fare_floor feed query.buyer *ℤ pos (query.rides - a.rides))

-- the triple arrives no later than this moment, with no more rides than so many, and costs no more than this
abbrev pub is_within : ℤ → ℕ → ℤ → Triple → Bool
is_within at rides price triple = int_le triple.arrival.0 at && nat_le triple.rides rides && int_le triple.price.0 price
