-- How little more legs can cost, and which partial journeys are outdone by a triple that is found.
use Rattle.std.specs.Prelude.{◌-◌, Bool, ◌&&◌, if◌then◌else◌, nat_le, int_le, List, map, fold, ℤ, pos, ◌+ℤ◌, ◌*ℤ◌}
use Rattle.std.specs.Int.{int_min}
use Rattle.std.specs.List.{list_any}
use Rattle.feed_rows.specs.declared.journeys.Buyer.{Buyer}
use Rattle.feed_rows.specs.declared.fares.Triple.{Triple}
use Rattle.feed_rows.specs.declared.journeys.Query.{Query}
use Rattle.feed_rows.specs.declared.rows.ProductRow.{ProductRow}
use Rattle.feed_rows.specs.FeedRows.{FeedRows}
use Rattle.feed_rows.specs.FareChoices.{is_open}
use Rattle.feed_rows.specs.PartialJourneys.{LabelFacts}
use Rattle.feed_rows.specs.LabelCover.{price_so_far}
use Rattle.plain_laws.specs.Plain.{filled_and}

-- the product row is open to the buyer for some leg rule
abbrev pub is_for_legs : FeedRows → Buyer → ProductRow → Bool
is_for_legs feed buyer row = list_any (λ rule. is_open rule.product buyer row) feed.leg_rules

-- or for some transfer rule
abbrev pub is_for_changes : FeedRows → Buyer → ProductRow → Bool
is_for_changes feed buyer row =
    list_any (λ rule. filled_and rule.product (λ product. is_open product buyer row)) feed.transfer_rules

-- the least of 0 and the amounts of these product rows
abbrev pub least_amount : (ProductRow → Bool) → List ProductRow → ℤ
least_amount test rows = fold int_min (pos 0) (map (λ row. if test row then row.amount.0 else pos 0) rows)

-- a leg with the change to it costs no less than this, which is at most 0
unfoldable pub fare_floor : FeedRows → Buyer → ℤ
fare_floor feed buyer =
    least_amount (is_for_legs feed buyer) feed.products +ℤ least_amount (is_for_changes feed buyer) feed.products

-- the least price that a continuation can start from: what is held may be taken back
abbrev pub least_so_far : LabelFacts → ℤ
least_so_far a = int_min a.paid (price_so_far a)

-- the triple arrives no later, with no more rides, and costs no more than can follow within the query's limit of rides
unfoldable pub is_outdone : FeedRows → Query → Triple → LabelFacts → Bool
is_outdone feed query triple a =
    int_le triple.arrival.0 a.arrival
    && nat_le triple.rides a.rides
    && int_le triple.price.0 (least_so_far a +ℤ (fare_floor feed query.buyer *ℤ pos (query.rides - a.rides)))
