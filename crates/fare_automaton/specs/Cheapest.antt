-- What is paid by the places of a change, and the cheapest of them.
use Rattle.std.specs.Prelude.{Option, ℤ, pos}
use Rattle.feed_rows.specs.declared.fares.ChangeChoice.{ChangeChoice}
use Rattle.feed_rows.specs.FeedRows.{FeedRows}
use Rattle.feed_rows.specs.FareSteps.{next_paid, place_charge, place_kind}
use Rattle.plain_laws.specs.Lesser.{lesser_by}
use Rattle.fare_automaton.specs.declared.cheapest.PaidPlace.{PaidPlace}

-- what a leg of this amount and the change to it by this place add to what was paid
abbrev pub paid_by : FeedRows → ℤ → ℤ → Option ChangeChoice → ℤ
paid_by feed held amount place = next_paid (pos 0) held (place_kind feed place) amount (place_charge feed place)

-- the place with it
abbrev pub paid_place : FeedRows → ℤ → ℤ → Option ChangeChoice → PaidPlace
paid_place feed held amount place = record { place = place; paid = record { 0 = paid_by feed held amount place } }

-- the place by which less is paid: the first, where it is the same by both
abbrev pub cheaper : Option PaidPlace → PaidPlace → PaidPlace
cheaper = lesser_by (λ (one : PaidPlace). one.paid.0)
