-- One more leg after a fare state: which moves there are, and what follows of each. A move names the rule and the
-- product row of the leg, and those of the change to it. All is said of the state alone, so of states too that no legs
-- have.
use Rattle.std.specs.Prelude.{◌≡◌, ◌≢◌, ℕ, ◌+◌, Bool, true, false, ◌&&◌, ◌||◌, ◌==◌, not, if◌then◌else◌, List, All, AllPairs, Contains, Option, Some, None, is_none, ℤ, pos, ◌+ℤ◌, slice_get, option_map, option_and_then}
use Rattle.std.specs.Option.{is_some, option_map_or, unwrap_or}
use Rattle.std.specs.List.{list_any}
use Rattle.feed_rows.specs.declared.journeys.Buyer.{Buyer}
use Rattle.feed_rows.specs.declared.fares.ChangeChoice.{ChangeChoice}
use Rattle.feed_rows.specs.declared.fares.LegChoice.{LegChoice}
use Rattle.feed_rows.specs.declared.fares.TransferFacts.{TransferFacts}
use Rattle.feed_rows.specs.declared.journeys.LegFacts.{LegFacts}
use Rattle.feed_rows.specs.declared.states.FareState.{FareState}
use Rattle.feed_rows.specs.declared.states.Move.{Move}
use Rattle.feed_rows.specs.Codes.{change_alone, includes_leg_after}
use Rattle.feed_rows.specs.FeedRows.{FeedRows}
use Rattle.feed_rows.specs.TransferRules.{FareLeg, AskedChange, asked_change, change_between, limit_holds, is_selected, same_group}
use Rattle.feed_rows.specs.FareChoices.{chosen_leg, is_leg_choice, is_change_product}
use Rattle.feed_rows.specs.FareSums.{amount_of, pick_amount}
use Rattle.feed_rows.specs.FareStates.{capped_count, counts_from_departure, state_of_run}
use Rattle.plain_laws.specs.Plain.{at_and, filled_and, when}

-- ---- what a move takes

-- what pays the leg
abbrev pub leg_taken : Move → LegChoice
leg_taken move = record { rule = move.rule; product = move.product }

-- what fills the place of the change to it
abbrev pub place_taken : Move → Option ChangeChoice
place_taken move = option_map (λ rule. record { rule = rule; product = move.xfer_product }) move.xfer

-- only a change that is arranged has a product row
abbrev pub is_whole : Move → Bool
is_whole move = if is_none move.xfer then is_none move.xfer_product else true

-- ---- the change

-- what later changes read of the last leg's run: its first leg, whose group is that of each leg of the run, and how many
-- changes it has
pub record Run : Type 0 where
  pub first : FareLeg
  pub changes : ℕ

-- the change from a run to the next leg; none where one of its legs has no group
abbrev pub change_to : Run → FareLeg → Option TransferFacts
change_to run next = change_between run.first run.changes next run.first.group next.group

-- the run as the state tells of it; the moment of a clock that the state lacks is no matter, since no limit that reads
-- it holds
abbrev pub run_told : FareState → Run
run_told state =
    record {
      first = record {
        group = state.group;
        departure = unwrap_or state.departure (record { 0 = pos 0 });
        arrival = unwrap_or state.arrival (record { 0 = pos 0 });
      };
      changes = state.count;
    }

-- the state has the clock that limits of this type read
abbrev pub has_clock : FareState → ℕ → Bool
has_clock state kind = if counts_from_departure kind then is_some state.departure else is_some state.arrival

-- the change from the state to the next leg, as rows are asked about it; none where one of the two has no group
abbrev pub asked_after : FareState → FareLeg → Option AskedChange
asked_after state next =
    option_map
    (λ change. record (asked_change change) { holds = λ limit. has_clock state limit.kind && limit_holds change limit })
    (change_to (run_told state) next)

-- some row is selected for the change
unfoldable pub is_arranged_after : FeedRows → AskedChange → Bool
is_arranged_after feed change = list_any (is_selected feed change) feed.transfer_rules

-- the row is selected for the change, with the right product row
unfoldable pub is_row_after : FeedRows → Buyer → AskedChange → ChangeChoice → Bool
is_row_after feed buyer change pick =
    at_and feed.transfer_rules pick.rule.0 (λ rule.
    is_selected feed change rule && is_change_product feed buyer rule.product pick.product)

-- the place of the change is filled exactly where the change is arranged, and then by a choice for it
abbrev pub is_place_after : FeedRows → Buyer → Option AskedChange → Option ChangeChoice → Bool
is_place_after feed buyer change None = not (filled_and change (is_arranged_after feed))
is_place_after feed buyer change (Some pick) = filled_and change (λ c. is_row_after feed buyer c pick)

-- ---- what is paid, and what is held

-- a change of this type makes the leg after it free
abbrev pub frees_next : Option ℕ → Bool
frees_next kind = filled_and kind includes_leg_after

-- a change of this type makes the leg before it free where that is the first of its chain
abbrev pub frees_first : Option ℕ → Bool
frees_first kind = filled_and kind (λ k. k == change_alone)

-- what is held after a change of this type: the amount of the leg after it, where the change isn't arranged
abbrev pub next_held : Option ℕ → ℤ → ℤ
next_held kind amount = if is_none kind then amount else pos 0

-- what is paid after a change of this type, which costs `change`: what was held, unless the change takes it back, and the leg
-- after it, unless that is free or held
abbrev pub next_paid : ℤ → ℤ → Option ℕ → ℤ → ℤ → ℤ
next_paid paid held kind amount change =
    paid +ℤ (if frees_first kind then pos 0 else held) +ℤ change +ℤ (if is_none kind || frees_next kind then pos 0 else amount)

-- the type of the row by which the place of a change says that it is arranged
abbrev pub place_kind : FeedRows → Option ChangeChoice → Option ℕ
place_kind feed place = option_and_then (λ pick. option_map (λ row. row.kind) (slice_get feed.transfer_rules pick.rule.0)) place

-- what the place of a change adds to the sum
abbrev pub place_charge : FeedRows → Option ChangeChoice → ℤ
place_charge feed place = option_map_or (pick_amount feed) place (pos 0)

-- ---- what follows

-- the state after the next leg: where the leg goes on with the run this has one change more, else a run starts with it
abbrev pub next_state : FeedRows → FareState → FareLeg → Option ChangeChoice → FareState
next_state feed state next place =
    if same_group state.group next.group && is_some place
    then record state { count = capped_count feed state.group (state.count + 1); first = false }
    else state_of_run feed next.group 0 next (is_none place)

-- a first leg is held
abbrev pub first_move : FeedRows → FareLeg → Move → Move
first_move feed leg taken =
    record taken {
      state = state_of_run feed leg.group 0 leg true;
      paid = record { 0 = pos 0 };
      held = record { 0 = amount_of feed taken.product };
    }

-- what is held is paid with the next leg or taken back, and this is paid, held or free, by the type of the change
abbrev pub next_move : FeedRows → FareState → ℤ → FareLeg → Move → Move
next_move feed state held next taken =
    let kind = place_kind feed (place_taken taken) in
    let amount = amount_of feed taken.product in
    record taken {
      state = next_state feed state next (place_taken taken);
      paid = record { 0 = next_paid (pos 0) held kind amount (place_charge feed (place_taken taken)) };
      held = record { 0 = next_held kind amount };
    }

-- the move with what follows, where its row numbers are an option for a first leg
unfoldable pub move_of_first : FeedRows → Buyer → LegFacts → Move → Option Move
move_of_first feed buyer leg taken =
    option_and_then
    (λ first. when
    (is_leg_choice feed buyer leg (leg_taken taken) && is_none (place_taken taken) && is_whole taken)
    (first_move feed first taken))
    (chosen_leg feed leg (leg_taken taken))

-- and where they are one for a leg after the state
unfoldable pub move_of_next : FeedRows → Buyer → FareState → ℤ → LegFacts → Move → Option Move
move_of_next feed buyer state held leg taken =
    option_and_then
    (λ next. when
    (is_leg_choice feed buyer leg (leg_taken taken)
    && is_place_after feed buyer (asked_after state next) (place_taken taken)
    && is_whole taken)
    (next_move feed state held next taken))
    (chosen_leg feed leg (leg_taken taken))

-- the move with what follows, after the state or as a first leg; none where its row numbers are no option
abbrev pub move_after : FeedRows → Buyer → Option FareState → ℤ → LegFacts → Move → Option Move
move_after feed buyer None held leg taken = move_of_first feed buyer leg taken
move_after feed buyer (Some state) held leg taken = move_of_next feed buyer state held leg taken

-- the moves are exactly those that there are, each once
pub record AreMovesAfter (feed : FeedRows) (buyer : Buyer) (state : Option FareState) (held : ℤ)
    (leg : LegFacts) (moves : List Move) : Type 0 where
  pub right : All (λ move. move_after feed buyer state held leg move ≡ Some move) moves
  pub all : (move : Move) → move_after feed buyer state held leg move ≡ Some move → Contains moves move
  pub once : AllPairs (λ a b. a ≢ b) moves
