use Rattle.std.proofs.Common.{◌≡◌, subst, sym, suc, ◌+◌, ◌-◌, ◌^◌, ◌<◌, ◌≤◌, arith}
use Rattle.std.specs.Int.Count.{count_leading_zeros}
use Rattle.std.proofs.lemmas.Nat.{leading_top}
use Rattle.label_bag.proofs.search.exponent.Goals as goal

pub returns-clause-low : goal.returns-clause-low
returns-clause-low c =
    let small : c.args.len < 2 ^ 64 = omega arith in
    let top = leading_top 64 c.args.len c.requires small in
    let last : 63 - count_leading_zeros 64 c.args.len ≡ top.0 = omega (arith, top.1) in
    subst (λ k. 2 ^ k ≤ c.args.len) (sym last) top.2

pub returns-clause-high : goal.returns-clause-high
returns-clause-high c =
    let small : c.args.len < 2 ^ 64 = omega arith in
    let top = leading_top 64 c.args.len c.requires small in
    let last : (63 - count_leading_zeros 64 c.args.len) + 1 ≡ suc top.0 = omega (arith, top.1) in
    subst (λ k. c.args.len < 2 ^ k) (sym last) top.3
