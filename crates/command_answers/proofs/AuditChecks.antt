-- What is due for an audit of the folder of one bus, and lines that do the task and that don't.
use Rattle.std.proofs.Common.{◌≡◌, refl, ap, ◌==◌, [], ◌∷◌, length, arith}
use Rattle.std.specs.Prelude.{if◌then◌else◌, Ok, Err, Some, None, pos, codes, map}
use Rattle.std.specs.Fmt.{digits}
use Rattle.jiff_core.specs.Calendar.{days_from_civil, day_count, days_of_years, days_of_months}
use Rattle.commands.specs.CommandWords.{role_at, value_at, fits_form}
use Rattle.commands.specs.Commands.{read_command}
use Rattle.commands.specs.declared.usage.UsageFault.TheVariants as usage
use Rattle.feed_faults.specs.OnLiterals.{feeds_on_literals}
use Rattle.feed_rows.specs.Calls.{call_at, calls_of}
use Rattle.feed_rows.specs.FareChoices.{is_open}
use Rattle.feed_rows.specs.FareGaps.{has_option, idle_rules, some_ride, some_ride_of_run, uncovered_pairs}
use Rattle.feed_rows.specs.FeedRows.{FeedRows}
use Rattle.feed_rows.specs.LegRules.{network_matches, area_matches, frame_matches, rule_matches, is_top_priority, is_selected_rule}
use Rattle.feed_rows.specs.Legs.{stop_areas, holds_at, leg_facts}
use Rattle.feed_rows.specs.Numerals.{number_value}
use Rattle.feed_rows.specs.Rides.{is_ride, ride_facts}
use Rattle.feed_rows.specs.RowsById.{has_rider_id, is_default_rider}
use Rattle.feed_rows.specs.ServiceDays.{is_active}
use Rattle.feed_rows.specs.Shifts.{shifts_of}
use Rattle.ticket_explain.specs.CommandLines.{gap_line}
use Rattle.command_answers.specs.Due.{Task, DoTask, due}
use Rattle.command_answers.specs.declared.refusal.Refusal.TheVariants as refusal
use Rattle.command_answers.proofs.DueChecks.{spaced}
use Rattle.command_answers.proofs.SmallFolder.{files, rows, no_category}
use Rattle.command_answers.proofs.TaskChecks.{tabbed}

-- it is about the rows of the folder, the buyer and the days; a rider category that the feed hasn't refuses it
due_audits :
    map (λ text. due files (spaced text))
    (codes "audit 2025-06-02 2025-06-03" ∷ codes "audit 2025-06-02 2025-06-03 --rider child" ∷ [])
    ≡ Ok (Task.Audits rows no_category (pos 20241) (pos 20242)) ∷ Err (refusal.Usage usage.UnknownRider) ∷ []
unfolding read_command role_at value_at fits_form number_value has_rider_id is_default_rider feeds_on_literals
    days_from_civil day_count days_of_years days_of_months
due_audits = refl

-- on its day the bus is paid by the rule, so nothing is told; on the next no ride selects the rule
paid_done : DoTask (Task.Audits rows no_category (pos 20241) (pos 20242)) []
unfolding uncovered_pairs idle_rules some_ride some_ride_of_run has_option is_ride ride_facts calls_of call_at shifts_of
    is_active stop_areas holds_at leg_facts network_matches area_matches frame_matches rule_matches is_top_priority
    is_selected_rule is_open
paid_done = refl

idle_done : DoTask (Task.Audits rows no_category (pos 20242) (pos 20242)) (tabbed (codes "idle|1") ∷ [])
unfolding uncovered_pairs idle_rules some_ride some_ride_of_run has_option is_ride ride_facts calls_of call_at shifts_of
    is_active stop_areas holds_at leg_facts network_matches area_matches frame_matches rule_matches is_top_priority
    is_selected_rule is_open digits
idle_done = refl

-- the rows, with a product that no one may buy without a category
abbrev for_riders : FeedRows
for_riders =
    record rows {
      products = record { product = record { 0 = 0 }; rider = Some (record { 0 = 0 }); medium = None; amount = record { 0 = pos 250 } } ∷ [];
    }

-- the pair comes before the rules, and is told by its ids
gap_done : DoTask (Task.Audits for_riders no_category (pos 20241) (pos 20241)) (tabbed (codes "gap|A|B") ∷ [])
unfolding uncovered_pairs idle_rules some_ride some_ride_of_run has_option is_ride ride_facts calls_of call_at shifts_of
    is_active stop_areas holds_at leg_facts network_matches area_matches frame_matches rule_matches is_top_priority
    is_selected_rule is_open gap_line
gap_done = refl

-- so no lines are wrong there
gap_left : DoTask (Task.Audits for_riders no_category (pos 20241) (pos 20241)) [] → ⊥
unfolding uncovered_pairs idle_rules some_ride some_ride_of_run has_option is_ride ride_facts calls_of call_at shifts_of
    is_active stop_areas holds_at leg_facts network_matches area_matches frame_matches rule_matches is_top_priority
    is_selected_rule is_open gap_line
gap_left are = let none = ap length are in absurd (omega (arith, none))
