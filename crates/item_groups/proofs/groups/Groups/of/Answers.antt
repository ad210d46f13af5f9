use Rattle.std.proofs.Common.{◌≡◌, ◌++◌, length, ap, ◌∙◌, arith}
use Rattle.item_groups.specs.Groups.{groups_below, group_of}
use Rattle.plain_laws.specs.Plain.{list_below}
use Rattle.item_groups.proofs.GroupLaws.{group_pushed}
use Rattle.item_groups.proofs.groups.Groups.of.Goals as goal

pub loop-group-preserved : goal.loop-group-preserved
loop-group-preserved g c =
    let at : c.len-in-loop-group.result ≡ length c.push_group.new.items.items = omega (arith, c.len-in-loop-group.ensures) in
    let grown : c.push_group.new.items.items ≡ c.loop-group.items.items ++ group_of c.args.members.items c.loop-group.group = c.in_ok-push_group.ensures ∙ ap (λ ms. c.loop-group.items.items ++ group_of ms c.loop-group.group) c.deref-in-loop-group.ensures.value in
    let pushed = group_pushed c.args.members.items _ _ _ _ c.loop-group.group _ c.loop-group.invariant.rise c.loop-group.invariant.groups grown c.in_ok-push_end.ensures.ok at in
    record { rise = pushed.0; groups = pushed.1 }

pub returns : goal.returns
unfolding groups_below
returns g c =
    let end : c.loop-group.group ≡ c.args.count = omega arith in
    c.loop-group.invariant.groups ∙ ap (λ n. list_below n (group_of c.args.members.items)) end
