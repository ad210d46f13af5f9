use Rattle.std.proofs.Common.{◌∙◌, refl}
use Rattle.std.proofs.lemmas.Result.{on_ok_weaker}
use Rattle.feed_rows.specs.Legs.{leg_facts}
use Rattle.fare_timeframes.proofs.Timeframes.leg_facts_into.Goals as goal

pub returns : goal.returns
unfolding leg_facts
returns c =
    on_ok_weaker c.frames_into-2.result
    (λ held feed are.
    let from_areas = c.in_ok-areas_into.ensures ∙ c.areas_of.ensures.areas feed are.areas in
    let to_areas = c.in_ok-areas_into-2.ensures ∙ c.areas_of-2.ensures.areas feed are.areas in
    let from_frames = c.in_ok-frames_into.ensures feed are in
    let to_frames = held feed are in
    rw (from_areas, to_areas, from_frames, to_frames) refl)
    c.frames_into-2.ensures
