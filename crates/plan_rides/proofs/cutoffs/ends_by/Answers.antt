use Rattle.std.proofs.Common.{◌≡◌, ◌+ℤ◌, ◌<ℤ◌, pos, sym, arith}
use Rattle.std.proofs.lemmas.Int.{ints}
use Rattle.plan_rides.proofs.CutoffLaws.{ends_in_time, ends_past, no_span}
use Rattle.plan_rides.proofs.cutoffs.ends_by.Goals as goal

pub returns-in_default : goal.returns-in_default
returns-in_default c = sym (no_span c.args.span _ c.in_default.is)

pub returns-in-Some-checked_add : goal.returns-in-Some-checked_add
returns-in-Some-checked_add c =
    let sum = c.in-Some-checked_add.ensures in
    let span = c.from.ensures in
    let end : c.in-Some-checked_add.end ≡ c.args.at.0 +ℤ pos c.in-Some.span.0 = omega (arith, ints, sum, span) in
    grind (
      arith,
      ints,
      ends_in_time c.args.span c.in-Some.span c.args.at.0 c.args.until.0 c.in-Some-checked_add.end
          c.in-Some.is end,
    )

pub returns-in-None : goal.returns-in-None
returns-in-None c =
    let past = c.in-None.ensures in
    let span = c.from.ensures in
    let late : c.args.until.0 <ℤ (c.args.at.0 +ℤ pos c.in-Some.span.0) = grind (arith, ints, past, span) in
    sym (ends_past c.args.span c.in-Some.span c.args.at.0 c.args.until.0 c.in-Some.is late)
