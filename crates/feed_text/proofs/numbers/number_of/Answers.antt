use Rattle.std.proofs.Common.{◌≡◌, ◌+◌, ◌-◌, ◌^◌, take, arith, refl, sym, ◌∙◌, length, true, get_or}
use Rattle.std.specs.Char.{is_ascii_digit}
use Rattle.std.proofs.Math.Seq.{take-length}
use Rattle.feed_text.proofs.DigitLaws.{all_more, no_number, empty_number, too_large, whole, grown, one_digit, two_digits}
use Rattle.feed_text.proofs.numbers.number_of.Goals as goal

pub returns-in-empty : goal.returns-in-empty
returns-in-empty c = empty_number c.args.text.now (2 ^ 64 - 1) (omega (arith, c.in-empty.len_below))

pub returns-in-len1 : goal.returns-in-len1
returns-in-len1 c = one_digit c.args.text.now c.digit_of.result (omega (arith, c.in-len1.len_at_least, c.in-len1.len_below)) c.digit_of.ensures.some c.digit_of.ensures.none

pub returns-in_err-digit_of-in-len2 : goal.returns-in_err-digit_of-in-len2
returns-in_err-digit_of-in-len2 c =
    rw c.from_residual.ensures (no_number c.args.text.now (2 ^ 64 - 1) 0 (omega (arith, c.in-len2.len_at_least)) c.in_err-digit_of-in-len2.ensures.none)

pub returns-in_err-digit_of-in-len2-2 : goal.returns-in_err-digit_of-in-len2-2
returns-in_err-digit_of-in-len2-2 c =
    rw c.from_residual-in_err-digit_of-in-len2-2.ensures
    (no_number c.args.text.now (2 ^ 64 - 1) 1 (omega (arith, c.in-len2.len_at_least)) c.in_err-digit_of-in-len2-2.ensures.none)

pub returns-in-len2 : goal.returns-in-len2
returns-in-len2 c =
    two_digits c.args.text.now _ _ (omega (arith, c.in-len2.len_at_least, c.in-len2.len_below)) c.in_ok-digit_of-in-len2.ensures.some c.in_ok-digit_of-in-len2-2.ensures.some

pub returns-then-not-is_ascii_digit : goal.returns-then-not-is_ascii_digit
returns-then-not-is_ascii_digit c =
    no_number c.args.text.now (2 ^ 64 - 1) c.loop-b.b-index c.loop-b-test.true (sym c.if-not-is_ascii_digit.ensures.value)

pub returns-in_err-checked_mul : goal.returns-in_err-checked_mul
returns-in_err-checked_mul c =
    let digit : is_ascii_digit (get_or c.args.text.now c.loop-b.b-index 0) ≡ true = sym c.if-not-is_ascii_digit.ensures.value in
    let next = grown c.args.text.now c.loop-b.b-index c.loop-b.value c.loop-b.invariant.value c.loop-b-test.true digit in
    rw c.from_residual-in_err-checked_mul.ensures (too_large c.args.text.now (2 ^ 64 - 1) (c.loop-b.b-index + 1) (rw next (omega (arith, c.in_err-checked_mul.ensures))))

pub returns-in_err-value : goal.returns-in_err-value
returns-in_err-value c =
    let digit : is_ascii_digit (get_or c.args.text.now c.loop-b.b-index 0) ≡ true = sym c.if-not-is_ascii_digit.ensures.value in
    let next = grown c.args.text.now c.loop-b.b-index c.loop-b.value c.loop-b.invariant.value c.loop-b-test.true digit in
    rw c.from_residual-in_err-value.ensures (too_large c.args.text.now (2 ^ 64 - 1) (c.loop-b.b-index + 1) (rw next (omega (arith, c.in_err-value.ensures, c.in_ok-checked_mul.ensures, c.from.ensures))))

pub loop-b-preserved : goal.loop-b-preserved
loop-b-preserved c =
    let digit : is_ascii_digit (get_or c.args.text.now c.loop-b.b-index 0) ≡ true = sym c.if-not-is_ascii_digit.ensures.value in
    let next = grown c.args.text.now c.loop-b.b-index c.loop-b.value c.loop-b.invariant.value c.loop-b-test.true digit in
    record {
      some = c.loop-b.invariant.some;
      fits = omega (arith, c.in_ok-value.ensures);
      digits = all_more c.args.text.now c.loop-b.b-index c.loop-b-test.true c.loop-b.invariant.digits digit;
      value = (omega (arith, c.in_ok-value.ensures, c.in_ok-checked_mul.ensures, c.from.ensures)) ∙ sym next;
    }

pub returns : goal.returns
returns c =
    let end : c.loop-b.b-index ≡ length c.args.text.now = omega arith in
    let all : take c.loop-b.b-index c.args.text.now ≡ c.args.text.now = rw (end, take-length c.args.text.now) refl in
    whole c.args.text.now (2 ^ 64 - 1) c.loop-b.value (rw all at c.loop-b.invariant.digits) c.loop-b.invariant.some
    (rw all at c.loop-b.invariant.value) c.loop-b.invariant.fits
