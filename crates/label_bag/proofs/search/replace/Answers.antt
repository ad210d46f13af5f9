use Rattle.std.proofs.Common.{◌≡◌, sym, ◌∙◌, ap, ◌-◌, ◌≤◌, not, length, insert, arith}
use Rattle.label_bag.proofs.ThinLaws.{thinned, thinned-kept, thinned-removed, thinned-whole, thinned-long, insert-thinned}
use Rattle.label_bag.proofs.search.replace.Goals as goal

pub loop-place-preserved-then-leq : goal.loop-place-preserved-then-leq
loop-place-preserved-then-leq g c =
    record {
      members = c.remove.ensures.items
          ∙ thinned-removed (λ m. not (g.L.LabelOrder.at_most c.args.label m)) _ _ (c.loop-place.place - 1) c.loop-place.place c.index.result.now (omega arith) (omega arith)
          (omega (arith, c.args.members.now.ok.0)) c.loop-place.members.items c.loop-place.invariant.members c.index.ensures (ap not (sym c.if-leq.ensures));
      from = omega arith;
      len = omega (arith, c.remove.ensures.len, c.loop-place.invariant.len);
      capacity = c.remove.ensures.capacity ∙ c.loop-place.invariant.capacity;
    }

pub loop-place-preserved : goal.loop-place-preserved
loop-place-preserved g c =
    record {
      members = thinned-kept (λ m. not (g.L.LabelOrder.at_most c.args.label m)) _ _ (c.loop-place.place - 1) c.loop-place.place c.index.result.now (omega arith) (omega arith)
          (omega (arith, c.args.members.now.ok.0)) c.loop-place.members.items c.loop-place.invariant.members c.index.ensures (ap not (sym c.if-leq.ensures));
      from = omega arith;
      len = c.loop-place.invariant.len;
      capacity = c.loop-place.invariant.capacity;
    }

pub insert-requires : goal.insert-requires
insert-requires g c =
    let long = thinned-long (λ m. not (g.L.LabelOrder.at_most c.args.label m)) c.args.members.now.items c.args.end c.loop-place.place in
    omega (arith, long, ap length c.loop-place.invariant.members, c.loop-place.members.ok.0, c.args.members.now.ok.0)

pub returns-in-Ok-clause-ok : goal.returns-in-Ok-clause-ok
returns-in-Ok-clause-ok g c =
    let first : c.loop-place.place ≡ c.args.start = omega arith in
    let left = c.loop-place.invariant.members ∙ ap (thinned (λ m. not (g.L.LabelOrder.at_most c.args.label m)) c.args.members.now.items c.args.end) first in
    c.in-Ok.ensures.items ∙ ap (λ zs. insert zs c.args.start c.args.label) left ∙ insert-thinned _ _ _ _ _ (omega (arith, c.args.members.now.ok.0))

pub returns-in-Err-clause-refused : goal.returns-in-Err-clause-refused
returns-in-Err-clause-refused g c =
    let first : c.loop-place.place ≡ c.args.start = omega arith in
    let left = c.loop-place.invariant.members ∙ ap (thinned (λ m. not (g.L.LabelOrder.at_most c.args.label m)) c.args.members.now.items c.args.end) first in
    let long : length c.args.members.now.items ≤ length (thinned (λ m. not (g.L.LabelOrder.at_most c.args.label m)) c.args.members.now.items c.args.end c.args.start) =
    omega (arith, ap length left, c.loop-place.members.ok.0, c.args.members.now.ok.0, c.args.members.now.ok.1, c.in-Err.ensures.full, c.loop-place.invariant.capacity) in (
      c.in-Err.ensures.value_returned,
      c.in-Err.ensures.items ∙ left ∙ thinned-whole _ _ _ _ c.requires.order (omega (arith, c.args.members.now.ok.0)) long,
      omega (arith, c.in-Err.ensures.full, c.loop-place.invariant.len, c.loop-place.invariant.capacity),
    )
