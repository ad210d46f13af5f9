use Rattle.std.proofs.Common.{◌≡◌, false, inl, inr, arith, sym, ◌∙◌}
use Rattle.std.proofs.lemmas.Bool.Decides.{nat_tests}
use Rattle.feed_faults.specs.FieldGrammars.{is_negative}
use Rattle.plan_words.proofs.RequestLaws.{no_number, number_missing, number_found, wide}
use Rattle.plan_words.proofs.values.number_in.Goals as goal
use Rattle.plan_words.proofs.values.number_in.Goals.{then-is_empty-via-then-is_empty, then-is_empty-via-else-is_empty+then-word-gt10, then-is_empty-via-else-is_empty+else-word-gt10+then-word-eq45}

pub returns-then-is_empty-clause-value : goal.returns-then-is_empty-clause-value
returns-then-is_empty-clause-value c =
    let why = no_number c.args.least c.args.most c.args.word.now in
    elim c.then-is_empty.branch [
      | then-is_empty-via-then-is_empty w ↦ why (inl (grind (arith, nat_tests, w.if-is_empty.true, c.is_empty.ensures)))
      | then-is_empty-via-else-is_empty+then-word-gt10 w ↦ why (inr (inl (omega (arith, w.if-word-gt10.true))))
      | then-is_empty-via-else-is_empty+else-word-gt10+then-word-eq45 w ↦ why (inr (inr w.if-word-eq45.true))
    ]

pub returns-in_err-value-clause-value : goal.returns-in_err-value-clause-value
returns-in_err-value-clause-value c =
    let unsigned : is_negative c.args.word.now ≡ false = grind (arith, nat_tests, c.if-word-eq45.false) in
    let missing = rw (wide c.args.least c.from.result c.ranges.least.fits c.from.ensures, wide c.args.most c.from-2.result c.ranges.most.fits c.from-2.ensures) at c.in_err-value.ensures in
    c.from_residual.ensures ∙ number_missing c.args.least c.args.most c.args.word.now unsigned (omega (arith, c.if-word-gt10.false)) (sym missing)

pub overflow_cast-result : goal.overflow_cast-result
overflow_cast-result c =
    let unsigned : is_negative c.args.word.now ≡ false = grind (arith, nat_tests, c.if-word-eq45.false) in
    let found = rw (wide c.args.least c.from.result c.ranges.least.fits c.from.ensures, wide c.args.most c.from-2.result c.ranges.most.fits c.from-2.ensures) at c.in_ok-value.ensures in
    let number = number_found c.args.least c.args.most c.args.word.now c.in_ok-value.value unsigned (omega (arith, c.if-word-gt10.false)) (sym found) in
    rw (wide number.number c.in_ok-value.value (omega (arith, number.high, c.ranges.most.fits)) number.is) (tt, omega (arith, number.high, c.ranges.most.fits))

pub returns-clause-value : goal.returns-clause-value
returns-clause-value c =
    let unsigned : is_negative c.args.word.now ≡ false = grind (arith, nat_tests, c.if-word-eq45.false) in
    let found = rw (wide c.args.least c.from.result c.ranges.least.fits c.from.ensures, wide c.args.most c.from-2.result c.ranges.most.fits c.from-2.ensures) at c.in_ok-value.ensures in
    let number = number_found c.args.least c.args.most c.args.word.now c.in_ok-value.value unsigned (omega (arith, c.if-word-gt10.false)) (sym found) in
    rw (wide number.number c.in_ok-value.value (omega (arith, number.high, c.ranges.most.fits)) number.is) number.read

pub returns-clause-high : goal.returns-clause-high
returns-clause-high c =
    let unsigned : is_negative c.args.word.now ≡ false = grind (arith, nat_tests, c.if-word-eq45.false) in
    let found = rw (wide c.args.least c.from.result c.ranges.least.fits c.from.ensures, wide c.args.most c.from-2.result c.ranges.most.fits c.from-2.ensures) at c.in_ok-value.ensures in
    let number = number_found c.args.least c.args.most c.args.word.now c.in_ok-value.value unsigned (omega (arith, c.if-word-gt10.false)) (sym found) in
    rw (wide number.number c.in_ok-value.value (omega (arith, number.high, c.ranges.most.fits)) number.is) number.high

pub returns-clause-low : goal.returns-clause-low
returns-clause-low c =
    let unsigned : is_negative c.args.word.now ≡ false = grind (arith, nat_tests, c.if-word-eq45.false) in
    let found = rw (wide c.args.least c.from.result c.ranges.least.fits c.from.ensures, wide c.args.most c.from-2.result c.ranges.most.fits c.from-2.ensures) at c.in_ok-value.ensures in
    let number = number_found c.args.least c.args.most c.args.word.now c.in_ok-value.value unsigned (omega (arith, c.if-word-gt10.false)) (sym found) in
    rw (wide number.number c.in_ok-value.value (omega (arith, number.high, c.ranges.most.fits)) number.is) number.low
