use Rattle.std.proofs.Common.{sym, ◌∙◌, ap, subst, ℕ, ◌≤◌, List, ◌++◌, take_all}
use Rattle.std.proofs.lemmas.List.{append-nil}
use Rattle.fare_price.specs.declared.ways.Way.{Way}
use Rattle.fare_price.proofs.GatherLaws.{taken_more}
use Rattle.fare_price.proofs.search.keep.Goals as goal

pub loop-number-preserved : goal.loop-number-preserved
loop-number-preserved c =
    taken_more c.args.ways.now c.loop-number.number _ _ _ _ c.get.ensures c.loop-number.invariant c.in_ok-push.ensures.items

pub loop-number-init : goal.loop-number-init
loop-number-init c = sym (append-nil c.args.steps.now.items)

pub returns : goal.returns
returns c =
    c.loop-number.invariant
    ∙ ap (λ (ways : List Way). c.args.steps.now.items ++ ways)
    (take_all c.loop-number.number c.args.ways.now
    (subst (λ (n : ℕ). n ≤ c.loop-number.number) c.len-number-end.ensures c.loop-number-test.false))
