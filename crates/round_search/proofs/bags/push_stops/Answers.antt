use Rattle.std.proofs.Common.{◌≡◌, sym, ◌∙◌, ◌<◌, [], length, arith}
use Rattle.std.proofs.lemmas.List.{append-nil, get_or_default}
use Rattle.round_search.proofs.BagLaws.{gathers_all, gathers_more}
use Rattle.round_search.proofs.bags.push_stops.Goals as goal

pub loop-number-init : goal.loop-number-init
loop-number-init g c = sym (append-nil c.args.labels.now.items)

pub loop-number-preserved : goal.loop-number-preserved
loop-number-preserved g c =
    let bags = c.args.bags.now.items in
    let lt : c.loop-number.number < length bags = omega (arith, c.loop-number-test.true, c.len-number-end.ensures, c.args.bags.now.ok.0) in
    gathers_more c.args.rides bags c.loop-number.number c.args.labels.now.items c.loop-number.labels.items _ c.index.result.now
    c.loop-number.invariant (sym (c.index.ensures ∙ get_or_default bags c.loop-number.number c.index.result.now [] lt))
    c.in_ok-push_into.ensures

pub returns : goal.returns
returns g c =
    let bags = c.args.bags.now.items in
    let all : c.loop-number.number ≡ length bags =
    omega (arith, c.loop-number-test.false, c.loop-number.auto.number-end, c.len-number-end.ensures, c.args.bags.now.ok.0) in
    gathers_all c.args.rides bags c.loop-number.number c.args.labels.now.items c.loop-number.labels.items all c.loop-number.invariant
