-- What can be paid for a leg, and what may fill the place of a change: all that there is, in the order of the rows.
use Rattle.std.specs.Prelude.{◌≡◌, ◌≢◌, ℕ, Bool, true, if◌then◌else◌, List, [], ◌∷◌, length, map, slice_get, All, AllPairs, Contains, Option, Some, None, ℤ}
use Rattle.std.specs.Option.{option_map_or}
use Rattle.transit_base.specs.declared.numbers.LegGroupId.{LegGroupId}
use Rattle.transit_base.specs.declared.numbers.ProductId.{ProductId}
use Rattle.transit_base.specs.declared.numbers.XferId.{XferId}
use Rattle.feed_rows.specs.declared.journeys.Buyer.{Buyer}
use Rattle.feed_rows.specs.declared.fares.ChangeChoice.{ChangeChoice}
use Rattle.feed_rows.specs.declared.fares.LegChoice.{LegChoice}
use Rattle.feed_rows.specs.declared.journeys.LegFacts.{LegFacts}
use Rattle.feed_rows.specs.declared.states.FareState.{FareState}
use Rattle.feed_rows.specs.declared.states.Move.{Move}
use Rattle.feed_rows.specs.FeedRows.{FeedRows}
use Rattle.feed_rows.specs.LegRules.{is_selected_rule}
use Rattle.feed_rows.specs.TransferRules.{AskedChange, is_selected}
use Rattle.feed_rows.specs.FareChoices.{is_open, is_leg_choice}
use Rattle.feed_rows.specs.FareSteps.{asked_after, is_arranged_after, is_place_after, first_move, next_move}
use Rattle.plain_laws.specs.Plain.{at_and, joined_below}
use Rattle.fare_transfer_rules.specs.Fits.{is_chosen}
use Rattle.fare_laws.specs.BareMoves.{bare}
use Rattle.fare_automaton.specs.declared.changes.LegTimes.{LegTimes}
use Rattle.fare_automaton.specs.Changes.{chosen_at, leg_by}

-- ---- legs

-- the choices are exactly those for the leg, each once
pub record ArePicks (feed : FeedRows) (buyer : Buyer) (leg : LegFacts) (picks : List LegChoice) : Type 0 where
  pub right : All (λ pick. is_leg_choice feed buyer leg pick ≡ true) picks
  pub all : (pick : LegChoice) → is_leg_choice feed buyer leg pick ≡ true → Contains picks pick
  pub once : AllPairs (λ a b. a ≢ b) picks

abbrev pub pick_of : ℕ → ℕ → LegChoice
pick_of rule row = record { rule = record { 0 = rule }; product = record { 0 = row } }

-- the row is an open row of the rule's product
abbrev pub is_row_of : FeedRows → Buyer → ℕ → ℕ → Bool
is_row_of feed buyer rule row = at_and feed.leg_rules rule (λ r. at_and feed.products row (is_open r.product buyer))

-- the choice of the row, where it is such
abbrev pub pick_if : FeedRows → Buyer → ℕ → ℕ → List LegChoice
pick_if feed buyer rule row = if is_row_of feed buyer rule row then pick_of rule row ∷ [] else []

-- the choices of a rule
unfoldable pub rule_picks : FeedRows → Buyer → ℕ → List LegChoice
rule_picks feed buyer rule = joined_below (length feed.products) (pick_if feed buyer rule)

-- the choices of a rule, where the leg selects it
abbrev pub picks_if : FeedRows → Buyer → LegFacts → ℕ → List LegChoice
picks_if feed buyer leg rule = if at_and feed.leg_rules rule (is_selected_rule feed leg) then rule_picks feed buyer rule else []

-- ---- changes

-- what may fill the place of the change is exactly this, each once
pub record ArePlaces (feed : FeedRows) (buyer : Buyer) (change : Option AskedChange)
    (places : List (Option ChangeChoice)) : Type 0 where
  pub right : All (λ place. is_place_after feed buyer change place ≡ true) places
  pub all : (place : Option ChangeChoice) → is_place_after feed buyer change place ≡ true → Contains places place
  pub once : AllPairs (λ a b. a ≢ b) places

abbrev pub place_of : ℕ → Option ℕ → Option ChangeChoice
place_of rule None = Some (record { rule = record { 0 = rule }; product = None })
place_of rule (Some row) = Some (record { rule = record { 0 = rule }; product = Some (record { 0 = row }) })

-- the place by the product row, where it is an open row of the product
abbrev pub place_if : FeedRows → Buyer → ℕ → ProductId → ℕ → List (Option ChangeChoice)
place_if feed buyer rule product row =
    if at_and feed.products row (is_open product buyer) then place_of rule (Some row) ∷ [] else []

-- the places by a transfer row with this product
unfoldable pub product_places : FeedRows → Buyer → ℕ → Option ProductId → List (Option ChangeChoice)
product_places feed buyer rule None = place_of rule None ∷ []
product_places feed buyer rule (Some product) = joined_below (length feed.products) (place_if feed buyer rule product)

-- the places by a transfer row, where it is selected
abbrev pub row_places : FeedRows → Buyer → AskedChange → ℕ → List (Option ChangeChoice)
row_places feed buyer change rule =
    option_map_or (λ row. if is_selected feed change row then product_places feed buyer rule row.product else [])
    (slice_get feed.transfer_rules rule) []

-- the places by the transfer row with this number, where it suits and has the least count
abbrev pub chosen_places : FeedRows → Buyer → AskedChange → Option (Option ℕ) → XferId → List (Option ChangeChoice)
chosen_places feed buyer change least rule =
    option_map_or (λ row. if is_chosen change least row then product_places feed buyer rule.0 row.product else [])
    (slice_get feed.transfer_rules rule.0) []

-- what may fill the place of a change: where it isn't arranged, or there is none, nothing
unfoldable pub place_list : FeedRows → Buyer → Option AskedChange → List (Option ChangeChoice)
place_list feed buyer None = None ∷ []
place_list feed buyer (Some change) =
    if is_arranged_after feed change
    then joined_below (length feed.transfer_rules) (row_places feed buyer change)
    else None ∷ []

-- ---- moves

-- the move of a first leg with these moments that is paid so
abbrev pub first_made : FeedRows → LegTimes → LegChoice → List Move
first_made feed times pick =
    option_map_or (λ first. first_move feed first (bare pick None) ∷ []) (chosen_at feed times pick) []

-- the moves of a leg with these moments after the state that is paid so: by each place of the change to it
abbrev pub next_made : FeedRows → Buyer → FareState → ℤ → LegTimes → LegChoice → List Move
next_made feed buyer state held times pick =
    option_map_or
    (λ next. map (λ place. next_move feed state held next (bare pick place)) (place_list feed buyer (asked_after state next)))
    (chosen_at feed times pick) []

-- these are the places of the change from the state to a leg with these moments, where its rule is of this group
abbrev pub HasPlaces : FeedRows → Buyer → FareState → LegTimes → List (Option ChangeChoice)
    → Option LegGroupId → Type 0
HasPlaces feed buyer state times places group = places ≡ place_list feed buyer (asked_after state (leg_by times group))

-- the lists of all choices, one after another
abbrev pub made_at : (LegChoice → List Move) → List LegChoice → ℕ → List Move
made_at made picks i = option_map_or made (slice_get picks i) []
