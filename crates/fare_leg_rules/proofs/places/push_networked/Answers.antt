use Rattle.std.proofs.Common.{◌∙◌, sym, ap, Some}
use Rattle.std.proofs.lemmas.List.{append-nil}
use Rattle.std.proofs.lemmas.Option.{slice_get_past, slice_get-get_or}
use Rattle.fare_leg_rules.proofs.places.push_networked.Goals as goal

pub returns-in-Some : goal.returns-in-Some
returns-in-Some c =
    let got = slice_get-get_or c.args.rows.now c.args.rule.rule.0 c.in-Some.row.now c.in-Some.ensures.lookup.3.0 ∙ ap Some (sym c.in-Some.ensures.lookup.1) in
    rw got c.push_of_row.ensures

pub returns-in-None : goal.returns-in-None
returns-in-None c =
    λ network. rw (slice_get_past c.args.rows.now c.args.rule.rule.0 c.in-None.ensures.lookup.3) (sym (append-nil _))
