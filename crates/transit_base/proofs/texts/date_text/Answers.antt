use Rattle.std.proofs.Common.{◌≡◌, true, ◌≤ℤ◌, negsuc, refl, sym, ap, ◌∙◌, arith, FitsSigned, w64}
use Rattle.std.proofs.lemmas.Int.{to_z-of_z, ints}
use Rattle.jiff_core.specs.Date.{epoch_day}
use Rattle.jiff_core.proofs.SignedLemmas.{signed_arith}
use Rattle.transit_base.specs.Dates.{date_of, is_dated}
use Rattle.transit_base.specs.DateTexts.{date_text}
use Rattle.transit_base.proofs.DateLemmas.{year_low, date_of-epoch_day}
use Rattle.transit_base.proofs.texts.date_text.Goals as goal

pub year_of-year-requires : goal.year_of-year-requires
year_of-year-requires c =
    let fits : FitsSigned w64 c.args.day.0 = omega (arith, signed_arith) in
    let is = simp to_z-of_z at c.in-Ok.ensures.value in
    let low : negsuc 719_161 ≤ℤ epoch_day c.in-Ok.date = rw is c.requires.low in
    year_low c.in-Ok.date low

pub returns : goal.returns
unfolding date_text
returns c =
    let fits : FitsSigned w64 c.args.day.0 = omega (arith, signed_arith) in
    let is = simp to_z-of_z at c.in-Ok.ensures.value in
    let low : negsuc 719_161 ≤ℤ epoch_day c.in-Ok.date = rw is c.requires.low in
    let date = ap date_of (sym is) ∙ date_of-epoch_day c.in-Ok.date c.year_of-year.result c.year_of-year.ensures (year_low c.in-Ok.date low) in
    let dated : is_dated c.args.day.0 ≡ true = grind (arith, ints) in
    rw (dated, date, c.two_digits.ensures, c.two_digits-2.ensures, c.two_digits-3.ensures, c.two_digits-4.ensures, c.from.ensures, c.from-2.ensures, c.from-3.ensures, c.from-4.ensures) refl
