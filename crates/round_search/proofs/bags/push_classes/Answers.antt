use Rattle.std.proofs.Common.{◌≡◌, sym, [], length, arith}
use Rattle.std.specs.Map.{values_of}
use Rattle.std.proofs.lemmas.List.{append-nil}
use Rattle.std.proofs.lemmas.Map.Entries.{length-values_of}
use Rattle.std.proofs.lemmas.Option.{get_or_from_slice_get}
use Rattle.round_search.proofs.BagLaws.{gathers_all, gathers_more}
use Rattle.round_search.proofs.bags.push_classes.Goals as goal

pub loop-number-init : goal.loop-number-init
loop-number-init g c = sym (append-nil c.args.labels.now.items)

pub loop-number-preserved : goal.loop-number-preserved
loop-number-preserved g c =
    let bags = values_of c.args.bags.now.entries in
    gathers_more c.args.rides bags c.loop-number.number c.args.labels.now.items c.loop-number.labels.items _ c.index.result.now
    c.loop-number.invariant (get_or_from_slice_get bags c.loop-number.number c.index.result.now [] c.index.ensures)
    c.in_ok-push_into.ensures

pub returns : goal.returns
returns g c =
    let bags = values_of c.args.bags.now.entries in
    let all : c.loop-number.number ≡ length bags =
    omega (
      arith,
      c.loop-number-test.false,
      c.loop-number.auto.number-end,
      c.len-number-end.ensures.len,
      length-values_of c.args.bags.now.entries,
    ) in
    gathers_all c.args.rides bags c.loop-number.number c.args.labels.now.items c.loop-number.labels.items all c.loop-number.invariant
