use Rattle.std.proofs.Common.{◌≡◌, ◌∙◌, pos, sym, arith}
use Rattle.std.proofs.lemmas.Int.{ints}
use Rattle.std.proofs.lemmas.Option.{none-some, same_Some}
use Rattle.plan_rides.proofs.spans.span_to.Goals as goal

pub returns-in_err-seconds : goal.returns-in_err-seconds
returns-in_err-seconds c query goes seconds is few =
    absurd (none-some seconds (sym c.in_err-seconds.was ∙ c.egress.ensures query goes ∙ is))

pub returns : goal.returns
returns c query goes seconds is few =
    let same : c.in_ok-seconds.seconds ≡ seconds = same_Some _ _ (sym c.in_ok-seconds.was ∙ c.egress.ensures query goes ∙ is) in
    let whole = c.from.ensures in
    c.span_of.ensures (pos seconds) (omega (arith, ints, same, whole)) (omega (arith, ints, few))
