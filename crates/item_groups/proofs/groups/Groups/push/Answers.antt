use Rattle.std.proofs.Common.{◌≡◌, ◌+◌, length, arith}
use Rattle.item_groups.proofs.PartLaws.{pushed_part}
use Rattle.item_groups.proofs.groups.Groups.push.Goals as goal

pub invariant_of-self-in-Ok : goal.invariant_of-self-in-Ok
invariant_of-self-in-Ok g c =
    let at : c.in-Some.end ≡ length c.self.inside.items.items + length c.args.group.now = omega (arith, c.in-Some.ensures.1, c.len.ensures) in
    (pushed_part _ _ _ _ _ _ c.self.invariant c.in_ok-push_end.ensures.ok c.in-Ok.ensures.items at).0

pub returns-in-Ok-clause-ok : goal.returns-in-Ok-clause-ok
returns-in-Ok-clause-ok g c =
    let at : c.in-Some.end ≡ length c.self.inside.items.items + length c.args.group.now = omega (arith, c.in-Some.ensures.1, c.len.ensures) in
    rw (← c.self.view_is) (pushed_part _ _ _ _ _ _ c.self.invariant c.in_ok-push_end.ensures.ok c.in-Ok.ensures.items at).1
