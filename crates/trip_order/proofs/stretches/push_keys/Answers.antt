use Rattle.std.proofs.Common.{◌∙◌, ap, ◌++◌, ◌∷◌, [], arith}
use Rattle.trip_order.specs.declared.keys.PlaceKey.{PlaceKey}
use Rattle.trip_order.proofs.JoinLaws.{keys_more}
use Rattle.trip_order.proofs.stretches.push_keys.Goals as goal

pub loop-row-preserved : goal.loop-row-preserved
loop-row-preserved c =
    let since = c.loop-row.invariant.since in
    record {
      since = omega (arith, since);
      keys = keys_more c.args.times.now c.args.stretch.now _ _ _ _ since c.loop-row.invariant.keys
          (c.in_ok-push.ensures.items ∙ ap (λ (key : PlaceKey). c.loop-row.keys.items ++ key ∷ []) c.key_of.ensures);
    }
