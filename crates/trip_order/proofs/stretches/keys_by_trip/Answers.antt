use Rattle.std.proofs.Common.{◌≡◌, ◌∙◌, subst, sym, ap, length, All, IsPermutation}
use Rattle.std.specs.List.{flat_map}
use Rattle.std.proofs.lemmas.Result.{IfOk-weaker}
use Rattle.std.proofs.lemmas.List.Sorted.{All-permutation}
use Rattle.plain_laws.specs.Plain.{list_below}
use Rattle.trip_order.specs.Joined.{keys_within, LiesWithin}
use Rattle.trip_order.specs.Order.{key_of}
use Rattle.trip_order.proofs.JoinLaws.{joined_permutation}
use Rattle.trip_order.proofs.stretches.keys_by_trip.Goals as goal

pub joined-requires-clause-within : goal.joined-requires-clause-within
joined-requires-clause-within c =
    let times = c.args.times.now in
    let sorted = All-permutation (LiesWithin times) c.in_ok-stretches.stretches.items c.sort_unstable.new.self.items c.sort_unstable.ensures.permutation c.in_ok-stretches.ensures.within in
    subst (λ stretches. All (LiesWithin times) stretches) (sym c.deref.ensures.value) sorted

pub returns : goal.returns
returns c =
    let times = c.args.times.now in
    let all = list_below (length times) (key_of times) in
    let moved = joined_permutation times c.in_ok-stretches.stretches.items c.sort_unstable.new.self.items c.in_ok-stretches.ensures c.sort_unstable.ensures.permutation in
    IfOk-weaker c.joined.result (λ keys. keys.items ≡ flat_map (keys_within times) c.deref.result.now) (λ keys. IsPermutation all keys.items)
    (λ keys is. subst (IsPermutation all) (sym (is ∙ ap (flat_map (keys_within times)) c.deref.ensures.value)) moved)
    c.joined.ensures
