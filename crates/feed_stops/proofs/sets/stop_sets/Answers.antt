use Rattle.std.proofs.Common.{refl, ◌∙◌}
use Rattle.std.proofs.lemmas.Result.{IfOk-weaker}
use Rattle.feed_laws.proofs.StopSetLaws.{stop_sets-from_members}
use Rattle.feed_stops.proofs.sets.stop_sets.Goals as goal

pub returns : goal.returns
returns c = IfOk-weaker c.of.result _ _ (λ sets is. is ∙ rw (← c.feed.view_is) (stop_sets-from_members _ _ _ _ c.feed.invariant.stops c.items-stops.ensures.value refl c.in_ok-members.ensures)) c.of.ensures
