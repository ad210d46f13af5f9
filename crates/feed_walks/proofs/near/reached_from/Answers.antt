use Rattle.std.proofs.Common.{◌∙◌, ◌++◌, ap}
use Rattle.std.proofs.lemmas.List.Elements.{Contains-append_right}
use Rattle.feed_walks.proofs.NearLaws.{taken_kept, taken_more, taken_past, taken_reach}
use Rattle.feed_walks.proofs.near.reached_from.Goals as goal
use Rattle.feed_walks.proofs.near.reached_from.Goals.{then-does_lead+in_ok-extend_from_slice, else-does_lead}

pub loop-place-preserved : goal.loop-place-preserved
loop-place-preserved c = elim c.if-does_lead.branch [
  | then-does_lead+in_ok-extend_from_slice w ↦
      rw w.reached-is
      (taken_more c.args.sets.now c.get-rows.result.now c.loop-place.place _ c.loop-place.reached.items _ c.loop-place-test.true
      c.loop-place.invariant (w.in_ok-extend_from_slice.ensures.items ∙ ap (λ ts. c.loop-place.reached.items ++ ts) w.get.ensures))
  | else-does_lead w ↦
      rw w.reached-is (taken_past c.args.sets.now c.get-rows.result.now c.loop-place.place c.loop-place.reached.items c.loop-place.invariant w.if-does_lead.ensures)
]

pub returns-in_ok-extend_from_slice-2 : goal.returns-in_ok-extend_from_slice-2
returns-in_ok-extend_from_slice-2 c = λ feed are made.
    taken_reach feed c.args.rules.now c.args.sets.now c.args.stop c.get-rows.result.now _ c.loop-place.place are made
    c.get-rows.ensures c.loop-place-test.false
    (taken_kept _ _ _ _ _ _ c.loop-place.invariant c.in_ok-extend_from_slice-2.ensures.items)
    (λ none to at.
    rw (c.in_ok-extend_from_slice-2.ensures.items, c.get-then-is_none.ensures) (Contains-append_right c.loop-place.reached.items _ to at))

pub returns-else-is_none : goal.returns-else-is_none
returns-else-is_none c = λ feed are made.
    taken_reach feed c.args.rules.now c.args.sets.now c.args.stop c.get-rows.result.now _ c.loop-place.place are made
    c.get-rows.ensures c.loop-place-test.false c.loop-place.invariant
    (λ none to at.
    let found = c.row_to.ensures (rw c.get-rows.ensures (are.rises c.args.stop.0)) in
    let gone = rw (found ∙ none) at c.if-is_none.ensures in absurd (cc))
