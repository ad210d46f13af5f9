use Rattle.std.proofs.lemmas.List.Sorted.{IsPermutation-trans}
use Rattle.plain_laws.specs.Plain.{list_below}
use Rattle.std.proofs.Common.{length}
use Rattle.trip_order.specs.Order.{key_of}
use Rattle.trip_order.proofs.SortLaws.{are_sorted}
use Rattle.trip_order.proofs.keys.sorted_keys.Goals as goal

pub returns : goal.returns
returns c =
    let times = c.args.times.now in
    let sorted = c.put_in_order.new.keys.items in
    let moved = IsPermutation-trans (list_below (length times) (key_of times)) c.in_ok-keys.keys.items sorted c.in_ok-keys.ensures c.put_in_order.ensures.moved in
    are_sorted times sorted moved c.put_in_order.ensures.sorted
