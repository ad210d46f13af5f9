-- One option more, and all of them.
use Rattle.std.proofs.Common.{◌≡◌, ◌+◌, ◌-◌, ◌<◌, ℕ, arith, inl, inr, length, refl, slice_index_or, subst}
use Rattle.std.proofs.lemmas.List.Elements.{Contains-get_or}
use Rattle.std.proofs.lemmas.Option.{slice_get-get_or}
use Rattle.feed_rows.specs.declared.fares.LegChoice.{LegChoice}
use Rattle.fare_automaton.specs.Fewest.{HasLesser}
use Rattle.fare_automaton.proofs.FewestLaws.{each_more, from_more}
use Rattle.fare_automaton.proofs.automaton.Automaton.fewer.Goals as goal
use Rattle.fare_automaton.proofs.automaton.Automaton.fewer.Goals.{then-not-has_lesser+in_ok-push, else-not-has_lesser}

-- (what stands in the list doesn't hang on it)
abbrev no_option : LegChoice
no_option = record { rule = record { 0 = 0 }; product = record { 0 = 0 } }

pub loop-number-preserved : goal.loop-number-preserved
loop-number-preserved c =
    let feed = c.args.self.now.feed in
    let options = c.args.options.now in
    let number = c.loop-number.number in
    let at : ℕ = length options - 1 - number in
    let test = c.loop-number-test.true in
    let lt : at < length options = omega (arith, test) in
    let place : number + 1 + at ≡ length options = omega (arith, test) in
    let was = c.loop-number.invariant in
    let option = slice_index_or options at no_option in
    elim c.if-not-has_lesser.branch [
      | then-not-has_lesser+in_ok-push w ↦ rw w.fewer-is (record {
        from = from_more options _ _ _ (Contains-get_or options at _ lt) was.from (inl w.in_ok-push.ensures.items);
        each = each_more feed options _ _ number at _ place (slice_get-get_or options at _ lt) was.each (inl w.in_ok-push.ensures.items);
      })
      | else-not-has_lesser w ↦ rw w.fewer-is (record {
        from = was.from;
        each = each_more feed options _ _ number at option place (slice_get-get_or options at no_option lt) was.each
            (inr (refl, subst (λ xs. HasLesser feed xs option) c.deref.ensures.value (c.has_lesser.ensures w.if-not-has_lesser.false)));
      })
    ]

pub returns : goal.returns
returns c =
    let all = c.loop-number-test.false in
    record {
      from = c.loop-number.invariant.from;
      each = λ i d lt. c.loop-number.invariant.each i _ (slice_get-get_or c.args.options.now i d lt) (omega (arith, all));
    }
