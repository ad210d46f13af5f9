use Rattle.std.proofs.Common.{◌∙◌, sym, ap, Some}
use Rattle.std.proofs.lemmas.Bool.{eqb-true}
use Rattle.std.proofs.lemmas.Option.{slice_get-get_or}
use Rattle.fare_audit.proofs.DayLaws.{kinds_same}
use Rattle.fare_audit.proofs.days.is_same_kind.Goals as goal

pub returns-in-Some-Some : goal.returns-in-Some-Some
returns-in-Some-Some c =
    λ same feed first are.
    let s = c.in-Some-Some in
    let kinds = c.args.kinds.now in
    let at = slice_get-get_or kinds c.args.a s.one.now s.ensures.lookup.3.0 ∙ ap Some (sym s.ensures.lookup.1) in
    let on = slice_get-get_or kinds c.args.b s.other.now s.ensures'.lookup.3.0 ∙ ap Some (sym s.ensures'.lookup.1) in
    kinds_same feed first kinds c.args.a c.args.b s.one.now are at (on ∙ ap Some (sym (eqb-true s.one.now s.other.now same)))
