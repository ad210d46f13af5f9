use Rattle.std.proofs.Common.{◌≡◌, ◌/◌, ◌%◌, refl, arith}
use Rattle.std.proofs.lemmas.Bool.{lt-ltb, le-ltb, le-leb}
use Rattle.transit_base.specs.Limits.{most_time}
use Rattle.transit_base.specs.DateTexts.{time_text}
use Rattle.transit_base.proofs.texts.time_text.Goals as goal

pub returns-then-hours-lt100 : goal.returns-then-hours-lt100
unfolding time_text
returns-then-hours-lt100 c =
    let short = lt-ltb (c.args.seconds.0 / 3600) 100 c.if-hours-lt100.true in
    let same : c.args.seconds.0 / 3600 % 100 ≡ c.args.seconds.0 / 3600 = omega arith in
    let early = le-leb c.args.seconds.0 most_time c.requires in
    rw (early, short, c.two_digits.ensures, c.two_digits-2.ensures, c.two_digits-3.ensures, same) refl

pub returns-else-hours-lt100 : goal.returns-else-hours-lt100
unfolding time_text
returns-else-hours-lt100 c =
    let long = le-ltb (c.args.seconds.0 / 3600) 100 c.if-hours-lt100.false in
    let early = le-leb c.args.seconds.0 most_time c.requires in
    rw (early, long, c.two_digits.ensures, c.two_digits-2.ensures, c.two_digits-3.ensures) refl
