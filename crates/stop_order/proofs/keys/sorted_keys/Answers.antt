use Rattle.std.proofs.Common.{◌≡◌, ◌∙◌, ◌<◌, ◌++◌, [], sym, ap, subst, length, get_or, take, All, List, None, arith}
use Rattle.std.specs.List.{flat_map}
use Rattle.std.proofs.lemmas.List.{take_all}
use Rattle.std.proofs.lemmas.List.Sorted.{IsPermutation-refl, IsPermutation-trans, All-permutation}
use Rattle.plain_laws.specs.Plain.{list_below}
use Rattle.stop_order.specs.declared.keys.PlaceKey.{PlaceKey}
use Rattle.stop_order.specs.Order.{key_of}
use Rattle.stop_order.proofs.KeyLaws.{sorted_order}
use Rattle.stop_order.proofs.StretchLaws.{stretch, joined_more, joined_permutation}
use Rattle.stop_order.proofs.keys.sorted_keys.Goals as goal

abbrev no_key : PlaceKey
no_key = record { trip = None; sequence = 0; row = 0 }

pub push_stretch-requires-clause-within : goal.push_stretch-requires-clause-within
push_stretch-requires-clause-within g c =
    let is_row = λ (key : PlaceKey). key.row < length (g.T.StopTimes.times c.args.times.now) in
    let all = All-permutation is_row c.in_ok-firsts.firsts.items c.sort_unstable.new.self.items c.sort_unstable.ensures.permutation c.in_ok-firsts.ensures.within in
    subst (All is_row) (sym c.deref-first-items.ensures.value) all c.loop-first.first-index _ (omega arith)

pub loop-first-init : goal.loop-first-init
loop-first-init g c = (c.new-stretch.ensures.items, rw c.in_ok-keys.ensures.items (IsPermutation-refl []))

pub loop-first-preserved : goal.loop-first-preserved
loop-first-preserved g c =
    let times = g.T.StopTimes.times c.args.times.now in
    let items = c.deref-first-items.result.now in
    let i = c.loop-first.first-index in
    let pushed : c.push_stretch.new.keys.items ≡ stretch times (get_or items i no_key) =
    c.in_ok-push_stretch.ensures ∙ ap (λ (before : List PlaceKey). before ++ stretch times (get_or items i no_key)) c.loop-first.invariant.0 in (
      c.in_ok-append.ensures.other_items,
      joined_more times items i no_key c.loop-first.keys.items c.push_stretch.new.keys.items c.sort_unstable-in-loop-first.new.self.items c.append.new.self.items (omega arith)
          c.loop-first.invariant.1 pushed c.sort_unstable-in-loop-first.ensures.permutation c.in_ok-append.ensures.items,
    )

pub returns : goal.returns
returns g c =
    let times = g.T.StopTimes.times c.args.times.now in
    let all = list_below (length times) (key_of times) in
    let firsts = c.sort_unstable.new.self.items in
    let items = c.deref-first-items.result.now in
    let moved = joined_permutation times c.in_ok-firsts.firsts.items firsts c.in_ok-firsts.ensures c.sort_unstable.ensures.permutation in
    let whole : take c.loop-first.first-index items ≡ items = take_all c.loop-first.first-index items (omega arith) in
    let joined = flat_map (stretch times) firsts in
    let made = rw (whole, c.deref-first-items.ensures.value) at c.loop-first.invariant.1 in
    let keys = c.loop-first.keys.items in
    let sorted = c.sort_unstable-2.new.self.items in
    sorted_order times sorted
    (IsPermutation-trans all keys sorted (IsPermutation-trans all joined keys moved made) c.sort_unstable-2.ensures.permutation) c.sort_unstable-2.ensures.sorted
