-- The state after a leg, by its parts.
use Rattle.std.proofs.Common.{◌≡◌, refl, sym, ◌∙◌, ap, ℕ, ◌+◌, Bool, true, false, not, ◌&&◌, Option, Some, None}
use Rattle.std.specs.Prelude.{if◌then◌else◌, is_none, min, ℤ, pos, ◌+ℤ◌}
use Rattle.std.specs.Option.{is_some, option_map_or}
use Rattle.std.proofs.lemmas.Bool.{and_parts}
use Rattle.std.proofs.lemmas.Int.{ints}
use Rattle.std.proofs.Math.Bool.{and-false}
use Rattle.std.proofs.Common.{arith}
use Rattle.transit_base.specs.declared.moments.Moment.{Moment}
use Rattle.transit_base.specs.declared.numbers.LegGroupId.{LegGroupId}
use Rattle.feed_rows.specs.declared.fares.ChangeChoice.{ChangeChoice}
use Rattle.feed_rows.specs.declared.fares.LegChoice.{LegChoice}
use Rattle.feed_rows.specs.declared.states.FareState.{FareState}
use Rattle.feed_rows.specs.FeedRows.{FeedRows}
use Rattle.feed_rows.specs.TransferRules.{FareLeg, same_group}
use Rattle.feed_rows.specs.FareStates.{greatest_count, capped_count, is_clock_read, counts_from_departure, counts_from_arrival, state_of_run}
use Rattle.feed_rows.specs.FareSteps.{first_move, next_move, next_state}
use Rattle.plain_laws.specs.Plain.{filled_and, when}
use Rattle.feed_laws.proofs.FareLaws.{same_group-equal}
use Rattle.fare_laws.specs.BareMoves.{bare}
use Rattle.fare_automaton.specs.declared.reads.GroupReads.{GroupReads}

group_there : (a b : Option LegGroupId) → same_group a b ≡ true → is_some a ≡ true
group_there None b e = e
group_there (Some g) b e = refl

-- a change is not none where there is one
not_none : (place : Option ChangeChoice) → is_some place ≡ true → is_none place ≡ false
not_none None e = absurd (let no : false ≡ true = e in cc)
not_none (Some c) e = refl

none_where : (place : Option ChangeChoice) (b : Bool) → is_some place ≡ not b → b ≡ is_none place
none_where None true e = refl
none_where None false e = absurd (let no : false ≡ true = e in cc)
none_where (Some c) true e = absurd (let no : true ≡ false = e in cc)
none_where (Some c) false e = refl

-- a run that starts has no change
no_change : (feed : FeedRows) (group : Option LegGroupId) → 0 ≡ capped_count feed group 0
no_change feed None = refl
no_change feed (Some g) = omega arith

-- one change more, up to the greatest count
one_more : (feed : FeedRows) (group : Option LegGroupId) (count greatest : ℕ) → is_some group ≡ true
    → greatest ≡ option_map_or (greatest_count feed) group 0
    → min greatest count + 1 ≡ capped_count feed group (count + 1)
one_more feed None count greatest some is = absurd (let no : false ≡ true = some in cc)
one_more feed (Some g) count greatest some is = rw is (omega arith)

module _ (feed : FeedRows) (state : FareState) (next : FareLeg) (place : Option ChangeChoice) where
  -- the state of a leg that goes on with the run, or starts one
  abbrev either : Bool → FareState
  either goes_on =
      if goes_on
      then record state { count = capped_count feed state.group (state.count + 1); first = false }
      else state_of_run feed next.group 0 next (is_none place)

  -- a state of the run, and one of a run that starts
  abbrev run_with : Option LegGroupId → ℕ → Bool → FareState
  run_with group count first = record state { group = group; count = count; first = first }

  abbrev start_with : ℕ → Bool → Bool → FareState
  start_with count departure arrival =
      record {
        group = next.group;
        count = count;
        departure = when departure next.departure;
        arrival = when arrival next.arrival;
        first = is_none place;
      }

  by_parts : (b : Bool) (reads : GroupReads) → reads.greatest_count ≡ option_map_or (greatest_count feed) next.group 0
      → reads.departure ≡ filled_and next.group (is_clock_read feed counts_from_departure)
      → reads.arrival ≡ filled_and next.group (is_clock_read feed counts_from_arrival)
      → b ≡ (same_group state.group next.group && is_some place)
      → record {
        group = next.group;
        count = if b then min reads.greatest_count state.count + 1 else 0;
        departure = if b then state.departure else when reads.departure next.departure;
        arrival = if b then state.arrival else when reads.arrival next.arrival;
        first = is_none place;
      } ≡ either b
  by_parts true reads count departure arrival test =
      let both = and_parts (same_group state.group next.group) (is_some place) (sym test) in
      let group = sym (same_group-equal state.group next.group both.0) in
      let greatest = count ∙ ap (λ (g : Option LegGroupId). option_map_or (greatest_count feed) g 0) group in
      let there = group_there state.group next.group both.0 in
      let changes = one_more feed state.group state.count reads.greatest_count there greatest in
      ap (λ (g : Option LegGroupId). run_with g (min reads.greatest_count state.count + 1) (is_none place)) group
      ∙ ap (λ (n : ℕ). run_with state.group n (is_none place)) changes
      ∙ ap (run_with state.group (capped_count feed state.group (state.count + 1))) (not_none place both.1)
  by_parts false reads count departure arrival test =
      let none = capped_count feed next.group 0 in
      let read = filled_and next.group (is_clock_read feed counts_from_departure) in
      ap (λ (n : ℕ). start_with n reads.departure reads.arrival) (no_change feed next.group)
      ∙ ap (λ (d : Bool). start_with none d reads.arrival) departure ∙ ap (start_with none read) arrival

  pub state_is : (goes_on : Bool) (reads : GroupReads) (count : ℕ) (departure arrival : Option Moment) (first : Bool)
      → reads.greatest_count ≡ option_map_or (greatest_count feed) next.group 0
      → reads.departure ≡ filled_and next.group (is_clock_read feed counts_from_departure)
      → reads.arrival ≡ filled_and next.group (is_clock_read feed counts_from_arrival)
      → goes_on ≡ (same_group state.group next.group && is_some place)
      → count ≡ (if goes_on then min reads.greatest_count state.count + 1 else 0)
      → departure ≡ (if goes_on then state.departure else when reads.departure next.departure)
      → arrival ≡ (if goes_on then state.arrival else when reads.arrival next.arrival)
      → is_some place ≡ not first
      → record { group = next.group; count = count; departure = departure; arrival = arrival; first = first }
      ≡ next_state feed state next place
  state_is goes_on reads count departure arrival first greatest dep arr test is_count is_departure is_arrival is_first =
      rw (is_count, is_departure, is_arrival, none_where place first is_first)
      (by_parts goes_on reads greatest dep arr test ∙ ap either test)

-- where the place of a change is empty, what was held is paid, and the leg is as a first one
pub unarranged : (feed : FeedRows) (state : FareState) (held : ℤ) (next : FareLeg) (pick : LegChoice)
    → record (first_move feed next (bare pick None)) { paid = record { 0 = held } }
    ≡ next_move feed state held next (bare pick None)
unarranged feed state held next pick =
    ap (λ (b : Bool). record (first_move feed next (bare pick None)) {
      state = if b
          then record state { count = capped_count feed state.group (state.count + 1); first = false }
          else state_of_run feed next.group 0 next true;
      paid = record { 0 = held };
    }) (sym (and-false (same_group state.group next.group)))
    ∙ ap (λ (z : ℤ). record (next_move feed state held next (bare pick None)) { paid = record { 0 = z } }) paid
  where
    paid : held ≡ pos 0 +ℤ held +ℤ pos 0 +ℤ pos 0
    paid = omega (arith, ints)
