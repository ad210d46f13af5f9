use Rattle.std.proofs.Common.{◌≡◌, ◌∙◌, ◌≤◌, List, [], ◌∷◌, ◌++◌, ap, sym, subst, length, map, AllPairs, IsPermutation, arith}
use Rattle.std.proofs.lemmas.List.{get_or_default, take_all}
use Rattle.feed_rows.specs.declared.rows.StopTimeRow.{StopTimeRow}
use Rattle.feed_trips.specs.Tables.{IsInOrder}
use Rattle.feed_trips.proofs.OrderLaws.{row_of, row_fits, rows_more, moved_by_keys, in_order_by_keys}
use Rattle.feed_trips.proofs.order.sorted_stop_times.Goals as goal
use Rattle.trip_order.specs.Order.{AreSorted, key_at, no_time, row_within}

pub bounds-rows-key : goal.bounds-rows-key
bounds-rows-key c =
    let are = subst (AreSorted c.args.rows.now) (sym c.deref-key-items.ensures.value) c.in_ok-keys.ensures in
    row_within c.args.rows.now c.deref-key-items.result.now c.loop-key.key-index are c.loop-key-test.true

pub offset_bounds-rows-key : goal.offset_bounds-rows-key
offset_bounds-rows-key c =
    let are = subst (AreSorted c.args.rows.now) (sym c.deref-key-items.ensures.value) c.in_ok-keys.ensures in
    row_fits (key_at c.deref-key-items.result.now c.loop-key.key-index).row (row_within c.args.rows.now c.deref-key-items.result.now c.loop-key.key-index are c.loop-key-test.true) c.requires

pub loop-key-preserved : goal.loop-key-preserved
loop-key-preserved c =
    let are = subst (AreSorted c.args.rows.now) (sym c.deref-key-items.ensures.value) c.in_ok-keys.ensures in
    let within = row_within c.args.rows.now c.deref-key-items.result.now c.loop-key.key-index are c.loop-key-test.true in
    let row = c.index-rows-key.is ∙ get_or_default c.args.rows.now _ _ no_time within in
    c.in_ok-push.ensures.items
    ∙ ap (λ (r : StopTimeRow). c.loop-key.sorted.items ++ r ∷ []) row
    ∙ ap (λ (rs : List StopTimeRow). rs ++ row_of c.args.rows.now (key_at c.deref-key-items.result.now c.loop-key.key-index) ∷ []) c.loop-key.invariant
    ∙ rows_more c.args.rows.now c.deref-key-items.result.now c.loop-key.key-index c.loop-key-test.true

-- the loop has put the rows of all keys
are : (c : goal.After-drop-keys-2) → c.loop-key.sorted.items ≡ map (row_of c.args.rows.now) c.in_ok-keys.keys.items
are c =
    let at_end : length c.deref-key-items.result.now ≤ c.loop-key.key-index = omega arith in
    c.loop-key.invariant ∙ ap (map (row_of c.args.rows.now)) (take_all c.loop-key.key-index c.deref-key-items.result.now at_end ∙ c.deref-key-items.ensures.value)

pub returns-clause-moved : goal.returns-clause-moved
returns-clause-moved c = subst (λ rows. IsPermutation c.args.rows.now rows) (sym (are c)) (moved_by_keys c.args.rows.now c.in_ok-keys.keys.items c.in_ok-keys.ensures)

pub returns-clause-sorted : goal.returns-clause-sorted
returns-clause-sorted c = subst (AllPairs IsInOrder) (sym (are c)) (in_order_by_keys c.args.rows.now c.in_ok-keys.keys.items c.in_ok-keys.ensures)
