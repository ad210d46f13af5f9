use Rattle.std.proofs.Common.{rules, refl, sym, ap, ◌∙◌, ◌==◌, not, arith}
use Rattle.feed_faults.specs.AcceptedFeed.{finite_count}
use Rattle.feed_faults.specs.FieldValues.{nat_of, int_or_zero}
use Rattle.feed_text.proofs.ValueLaws.{natural_is, int_is_short, time_fits, time_is_few}
use Rattle.feed_calls.proofs.CallLaws.{made_call}
use Rattle.feed_calls.proofs.calls.read_call.Goals as goal

pub nat_of-requires : goal.nat_of-requires
nat_of-requires g c = rw (rw c.rule_of.ensures.columns at c.in_ok-sequence.ensures.number) (int_is_short _ _ _ (omega arith))

pub natural-requires : goal.natural-requires
natural-requires g c = rw (rw c.rule_of.ensures.columns at c.in_ok-arrival.ensures.number) (time_fits _ _ (omega arith))

pub natural-requires-2 : goal.natural-requires-2
natural-requires-2 g c = rw (rw c.rule_of.ensures.columns at c.in_ok-departure.ensures.number) (time_fits _ _ (omega arith))

pub of-requires : goal.of-requires
of-requires g c = record {
  few = rw (c.natural.ensures, rw c.rule_of.ensures.columns at c.in_ok-arrival.ensures.number) (time_is_few _);
}

pub of-requires-2 : goal.of-requires-2
of-requires-2 g c = record {
  few = rw (c.natural-2.ensures, rw c.rule_of.ensures.columns at c.in_ok-departure.ensures.number) (time_is_few _);
}

pub returns-clause-sound : goal.returns-clause-sound
returns-clause-sound g c =
    let columns = c.rule_of.ensures.columns in
    let short = sym c.is_long.ensures ∙ c.if-is_long.false in
    let trip = rw columns at c.in_ok-trip.ensures.sound in
    let stop = rw columns at c.in_ok-stop.ensures.sound in
    let sequence = rw columns at c.in_ok-sequence.ensures.sound in
    let arrival = rw columns at c.in_ok-arrival.ensures.sound in
    let departure = rw columns at c.in_ok-departure.ensures.sound in
    let pickup = rw columns at c.in_ok-pickup.ensures.sound in
    let drop_off = rw columns at c.in_ok-drop_off.ensures.sound in
    rw (short, trip, stop, sequence, arrival, departure, pickup, drop_off) refl

pub returns-clause-row : goal.returns-clause-row
unfolding int_or_zero
returns-clause-row g c =
    let columns = c.rule_of.ensures.columns in
    made_call c.args.ids.now _ _ _ _ _ _ _ _ (search rules) (search rules)
    (c.nat_of.ensures.value ∙ ap nat_of (rw columns at c.in_ok-sequence.ensures.number))
    (c.of.ensures ∙ c.natural.ensures ∙ ap finite_count (rw columns at c.in_ok-arrival.ensures.number) ∙ natural_is _)
    (c.of-2.ensures ∙ c.natural-2.ensures ∙ ap finite_count (rw columns at c.in_ok-departure.ensures.number) ∙ natural_is _)
    (c.permits.ensures ∙ ap (λ n. not (nat_of n == 1)) (rw columns at c.in_ok-pickup.ensures.number))
    (c.permits-2.ensures ∙ ap (λ n. not (nat_of n == 1)) (rw columns at c.in_ok-drop_off.ensures.number))
