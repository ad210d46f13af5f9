use Rattle.std.proofs.Common.{◌∙◌, sym, ap, Some, subst, Contains}
use Rattle.std.proofs.lemmas.Option.{slice_get-get_or}
use Rattle.plain_laws.proofs.Laws.{Contains-slice_get}
use Rattle.fare_audit.proofs.found.Found.is_walked.Goals as goal

pub returns-in-Some : goal.returns-in-Some
returns-in-Some c = λ is.
    let s = c.in-Some in
    let place = c.walk_place.result in
    let at = slice_get-get_or c.deref.result.now place s.walk.now s.ensures.lookup.3.0 ∙ ap Some (sym s.ensures.lookup.1) in
    (s.walk.now, subst (λ ws. Contains ws s.walk.now) c.deref.ensures.value (Contains-slice_get c.deref.result.now place s.walk.now at), c.is_walk.ensures is)
