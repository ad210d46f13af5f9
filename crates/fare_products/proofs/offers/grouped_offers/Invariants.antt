use Rattle.std.proofs.Common.{◌≡◌, ℕ}
use Rattle.plain_laws.specs.Plain.{at_and, picks_below}
use Rattle.item_groups.specs.Groups.{group_of}
use Rattle.fare_products.specs.Offers.{offer_at, is_of}
use Rattle.fare_products.proofs.offers.grouped_offers.Given as goal

abbrev pub invariant-loop-number : goal.invariant-loop-number
invariant-loop-number l =
    (product : ℕ) → group_of l.members.items product
    ≡ picks_below l.number (λ i. at_and l.rows i (is_of product)) (offer_at l.rows)
