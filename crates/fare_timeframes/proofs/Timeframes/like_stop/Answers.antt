use Rattle.std.proofs.Common.{◌∙◌, ap, sym, Some}
use Rattle.std.specs.Prelude.{slice_get, unwrap_or}
use Rattle.std.proofs.lemmas.Option.{slice_get-get_or}
use Rattle.feed_rows.specs.Legs.{stop_areas}
use Rattle.fare_timeframes.proofs.Timeframes.like_stop.Goals as goal

pub returns-in-Some : goal.returns-in-Some
returns-in-Some c = λ feed are.
    let stop = c.args.stop in
    let s = c.in-Some in
    let at = ap (λ xs. slice_get xs stop.0) (sym c.deref.ensures.value) ∙ slice_get-get_or c.deref.result.now stop.0 s.like.now s.ensures.lookup.3.0 ∙ ap Some (sym s.ensures.lookup.1) in
    ap (λ o. stop_areas feed (unwrap_or o stop)) (sym at) ∙ are.likes stop
