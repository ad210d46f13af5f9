-- The course along legs: where the fares of the legs so far stand, and one step to the next leg. This is what a proof leg by leg
-- carries, and no rule of its own: runs, choices and sums are defined in `TransferRules`, `FareChoices` and `FareSums`, what is
-- held in `FareStates` and what a change adds in `FareSteps`, and `FareLaws`, `ChoiceLaws`, `SumLaws` and `StandLaws` prove that
-- the course gives them.
use Rattle.std.specs.Prelude.{◌≡◌, ℕ, zero, suc, ◌+◌, ◌-◌, Bool, ◌&&◌, if◌then◌else◌, List, Option, Some, ℤ, pos, ◌+ℤ◌, slice_get, option_and_then}
use Rattle.feed_rows.specs.declared.journeys.Buyer.{Buyer}
use Rattle.feed_rows.specs.declared.fares.ChangeChoice.{ChangeChoice}
use Rattle.feed_rows.specs.declared.fares.LegChoice.{LegChoice}
use Rattle.feed_rows.specs.declared.fares.Choice.{Choice}
use Rattle.feed_rows.specs.declared.journeys.LegFacts.{LegFacts}
use Rattle.feed_rows.specs.FeedRows.{FeedRows}
use Rattle.feed_rows.specs.TransferRules.{FareLeg, same_group, is_arranged, run_start}
use Rattle.feed_rows.specs.FareChoices.{chosen_leg, fare_leg, is_leg_choice, is_change_choice}
use Rattle.feed_rows.specs.FareSums.{transfer_kind, leg_amount, amount_of, fare_sum}
use Rattle.feed_rows.specs.FareStates.{held_at}
use Rattle.feed_rows.specs.FareSteps.{Run, change_to, next_held, next_paid, place_kind, place_charge}
use Rattle.plain_laws.specs.Plain.{filled_and, when}

-- ---- runs

-- the run that starts with this leg
abbrev pub fresh_run : FareLeg → Run
fresh_run leg = record { first = leg; changes = 0 }

-- the next leg goes on with the run
unfoldable pub extends : FeedRows → Run → FareLeg → Bool
extends feed run next = same_group run.first.group next.group && filled_and (change_to run next) (is_arranged feed)

-- the run of the next leg
unfoldable pub next_run : FeedRows → Run → FareLeg → Run
next_run feed run next =
    if extends feed run next then record { first = run.first; changes = run.changes + 1 } else fresh_run next

-- the run is that of leg i, where `leg` gives each leg by its number
pub record IsRunAt (feed : FeedRows) (leg : ℕ → Option FareLeg) (i : ℕ) (run : Run) : Type 0 where
  pub first : leg (run_start feed leg i) ≡ Some run.first
  pub changes : i - run_start feed leg i ≡ run.changes

-- ---- the state and the step

-- where the fares of some legs stand: the run of the last leg, what no later change takes back, and what a change that
-- alone is paid would
pub record FareStand : Type 0 where
  pub run : Run
  pub paid : ℤ
  pub held : ℤ

-- the price of the legs so far
abbrev pub stand_price : FareStand → ℤ
stand_price stand = stand.paid +ℤ stand.held

-- so fares stand after a first leg
abbrev pub stand_of_first : FeedRows → FareLeg → LegChoice → FareStand
stand_of_first feed first pick = record { run = fresh_run first; paid = pos 0; held = amount_of feed pick.product }

-- so they stand after one more leg, with its choice and the place of the change to it
abbrev pub stand_of_next : FeedRows → FareStand → FareLeg → LegChoice → Option ChangeChoice → FareStand
stand_of_next feed stand next pick place =
    record {
      run = next_run feed stand.run next;
      paid = next_paid stand.paid stand.held (place_kind feed place) (amount_of feed pick.product) (place_charge feed place);
      held = next_held (place_kind feed place) (amount_of feed pick.product);
    }

-- where fares stand after a first leg; nowhere where the choice isn't one for it
unfoldable pub first_fare_stand : FeedRows → Buyer → LegFacts → LegChoice → Option FareStand
first_fare_stand feed buyer leg pick =
    option_and_then
    (λ first. when (is_leg_choice feed buyer leg pick) (stand_of_first feed first pick))
    (chosen_leg feed leg pick)

-- where fares stand after one more leg; nowhere where its choice or the place of the change to it isn't right
unfoldable pub next_fare_stand : FeedRows → Buyer → FareStand → LegFacts → LegChoice → Option ChangeChoice → Option FareStand
next_fare_stand feed buyer stand leg pick place =
    option_and_then
    (λ next. when
    (is_leg_choice feed buyer leg pick && is_change_choice feed buyer (change_to stand.run next) place)
    (stand_of_next feed stand next pick place))
    (chosen_leg feed leg pick)

-- where fares stand after leg i, step by step; nowhere where a leg or a change up to it isn't paid
abbrev pub stand_at : FeedRows → Buyer → List LegFacts → Choice → ℕ → Option FareStand
stand_at feed buyer legs choice zero =
    option_and_then (λ leg. option_and_then (first_fare_stand feed buyer leg) (slice_get choice.legs 0)) (slice_get legs 0)
stand_at feed buyer legs choice (suc i) =
    option_and_then (λ stand. option_and_then (λ leg. option_and_then (λ pick. option_and_then
    (next_fare_stand feed buyer stand leg pick)
    (slice_get choice.changes i)) (slice_get choice.legs (suc i))) (slice_get legs (suc i)))
    (stand_at feed buyer legs choice i)

-- so fares stand after n + 1 legs that a choice pays: by the run of the last leg, by what is held, and by the sum
pub record IsStandOf (feed : FeedRows) (legs : List LegFacts) (choice : Choice) (n : ℕ) (stand : FareStand) : Type 0 where
  pub run : IsRunAt feed (fare_leg feed legs choice.legs) n stand.run
  pub held : stand.held ≡ held_at (transfer_kind feed choice) (leg_amount feed choice) n
  pub price : stand_price stand ≡ fare_sum feed choice
