use Rattle.std.proofs.Common.{◌≡◌, take, ◌++◌, ◌∷◌, [], sym, ◌∙◌, ap, subst, arith, ◌+◌}
use Rattle.std.proofs.lemmas.List.{take_more}
use Rattle.label_bag.specs.Bags.{Gathers}
use Rattle.label_bag.proofs.BagLaws.{of_answer, gathers-none, gathers-then}
use Rattle.label_bag.proofs.bag.offer_all.Goals as goal

pub loop-label-init : goal.loop-label-init
loop-label-init g c = record { gathers = gathers-none _ _; room = omega arith }

pub loop-label-preserved : goal.loop-label-preserved
loop-label-preserved g c =
    let more : take (c.loop-label.label-index + 1) c.args.labels.now ≡ take c.loop-label.label-index c.args.labels.now ++ c.label-item.result ∷ [] =
    take_more _ c.loop-label.label-index c.label-item.result c.loop-label-test.true ∙ ap (λ x. take c.loop-label.label-index c.args.labels.now ++ x ∷ []) (sym c.label-item.is) in
    record {
      gathers = subst (λ xs. Gathers g.L.LabelOrder.at_most (g.B.Bag.content c.args.bag.now) xs (g.B.Bag.content c.offer.new.self)) (sym more)
          (gathers-then _ _ _ _ _ _ c.loop-label.invariant.gathers (of_answer c.offer.result (sym c.if-is_err.ensures.value) c.offer.ensures.gathers));
      room = omega (arith, c.offer.ensures.spare, c.loop-label.invariant.room);
    }
