use Rattle.std.proofs.Common.{◌≡◌, ℕ, rules, tests, ◌∙◌, ◌≤◌, ◌-◌, length, take, drop, length-drop, ap, sym, arith}
use Rattle.std.specs.Prelude.{min, ◌==◌}
use Rattle.std.specs.List.{list_all}
use Rattle.std.proofs.lemmas.Iterator.{YieldsList-from_slice}
use Rattle.std.proofs.lemmas.Iterator.Search.{all_from_yields_List}
use Rattle.std.proofs.lemmas.List.{take_all}
use Rattle.std.proofs.lemmas.Bool.Decides.{nat_tests}
use Rattle.feed_text.proofs.AmountLaws.{no_digits, not_zeros, all_zeros, fraction_of_number}
use Rattle.feed_text.proofs.amounts.fraction_of.Goals.{After-all}
use Rattle.feed_text.proofs.amounts.fraction_of.Goals as goal

zeros : (c : After-all) → c.all.result ≡ list_all (λ (b : ℕ). b == 48) (take (length c.args.digits.now - c.min-places.result) (drop c.min-places.result c.args.digits.now))
zeros c = all_from_yields_List (λ (b : ℕ). b == 48) _ _ c.all.result c.all.ensures.ran (YieldsList-from_slice _ c.iter.ensures.rest) (λ x b q k. search (rules, tests))

pub returns-then-is_empty-clause-value : goal.returns-then-is_empty-clause-value
returns-then-is_empty-clause-value c =
    let none : length c.args.digits.now ≡ 0 = grind (arith, nat_tests, c.is_empty.ensures, c.if-is_empty.true) in
    sym (no_digits c.args.decimals c.args.digits.now none)

pub returns-then-not-all-clause-value : goal.returns-then-not-all-clause-value
returns-then-not-all-clause-value c =
    let some : 1 ≤ length c.args.digits.now = grind (arith, nat_tests, c.is_empty.ensures, c.if-is_empty.false) in
    let places = c.min-places.ensures ∙ ap (min (length c.args.digits.now)) c.from.ensures in
    let rest : take (length c.args.digits.now - c.min-places.result) (drop c.min-places.result c.args.digits.now) ≡ drop c.min-places.result c.args.digits.now = take_all _ _ (omega (arith, length-drop c.min-places.result c.args.digits.now)) in
    sym (not_zeros c.args.digits.now c.args.decimals c.min-places.result places (rw rest at (sym (zeros (goal.at.returns-then-not-all-clause-value c).After-all) ∙ c.if-not-all.true)) some)

pub returns-then-places-eq0-clause-value : goal.returns-then-places-eq0-clause-value
returns-then-places-eq0-clause-value c =
    let some : 1 ≤ length c.args.digits.now = grind (arith, nat_tests, c.is_empty.ensures, c.if-is_empty.false) in
    let places = c.min-places.ensures ∙ ap (min (length c.args.digits.now)) c.from.ensures in
    let rest : take (length c.args.digits.now - c.min-places.result) (drop c.min-places.result c.args.digits.now) ≡ drop c.min-places.result c.args.digits.now = take_all _ _ (omega (arith, length-drop c.min-places.result c.args.digits.now)) in
    sym (all_zeros c.args.digits.now c.args.decimals c.min-places.result places (rw rest at (sym (zeros (goal.at.returns-then-places-eq0-clause-value c).After-all) ∙ c.if-not-all.false)) some c.if-places-eq0.true)

pub returns-in_err-number-clause-value : goal.returns-in_err-number-clause-value
returns-in_err-number-clause-value c =
    let some : 1 ≤ length c.args.digits.now = grind (arith, nat_tests, c.is_empty.ensures, c.if-is_empty.false) in
    let places = c.min-places.ensures ∙ ap (min (length c.args.digits.now)) c.from.ensures in
    let rest : take (length c.args.digits.now - c.min-places.result) (drop c.min-places.result c.args.digits.now) ≡ drop c.min-places.result c.args.digits.now = take_all _ _ (omega (arith, length-drop c.min-places.result c.args.digits.now)) in
    let counted : 1 ≤ c.min-places.result = omega (arith, c.if-places-eq0.false) in
    let value = fraction_of_number c.args.digits.now c.args.decimals c.min-places.result places c.requires (rw rest at (sym (zeros (goal.at.returns-in_err-number-clause-value c).After-all) ∙ c.if-not-all.false)) some counted c.small_number_of.result c.small_number_of.ensures.value in
    c.from_residual.ensures ∙ sym (rw c.in_err-number.was at value)

pub returns-clause-value : goal.returns-clause-value
returns-clause-value c =
    let some : 1 ≤ length c.args.digits.now = grind (arith, nat_tests, c.is_empty.ensures, c.if-is_empty.false) in
    let places = c.min-places.ensures ∙ ap (min (length c.args.digits.now)) c.from.ensures in
    let rest : take (length c.args.digits.now - c.min-places.result) (drop c.min-places.result c.args.digits.now) ≡ drop c.min-places.result c.args.digits.now = take_all _ _ (omega (arith, length-drop c.min-places.result c.args.digits.now)) in
    let counted : 1 ≤ c.min-places.result = omega (arith, c.if-places-eq0.false) in
    let value = fraction_of_number c.args.digits.now c.args.decimals c.min-places.result places c.requires (rw rest at (sym (zeros (goal.at.returns-clause-value c).After-all) ∙ c.if-not-all.false)) some counted c.small_number_of.result c.small_number_of.ensures.value in
    rw (c.pow.ensures, c.from-2.ensures) (sym (rw c.in_ok-number.was at value))
