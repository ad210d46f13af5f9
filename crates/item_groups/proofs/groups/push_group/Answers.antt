use Rattle.std.proofs.Common.{[], ◌∷◌, take, append_assoc, ◌≡◌, ◌<◌, ◌+◌, ◌++◌, ◌∙◌, ap, sym, subst, length, get_or, arith}
use Rattle.std.proofs.lemmas.List.{append-nil, get_or_default, take_all}
use Rattle.item_groups.specs.Groups.{IsNextOf, group_of}
use Rattle.item_groups.proofs.GroupLaws.{group_of-start, group_of-next}
use Rattle.item_groups.proofs.groups.push_group.Goals as goal

pub loop-place-init : goal.loop-place-init
loop-place-init g c =
    let at : c.index.result.now ≡ get_or c.args.chains.now.firsts.items c.args.group 0 = c.index.ensures ∙ get_or_default c.args.chains.now.firsts.items c.args.group c.index.result.now 0 c.requires.below in
    let next : IsNextOf c.args.members.now c.args.group 0 c.index.result.now = subst (IsNextOf c.args.members.now c.args.group 0) (sym at) (c.requires.chains.first c.args.group c.requires.below) in
    record {
      items = sym (append-nil c.args.items.now.items) ∙ ap (λ xs. c.args.items.now.items ++ xs) (group_of-start c.args.members.now c.args.group c.index.result.now next);
      own = next.own;
    }

pub loop-place-preserved : goal.loop-place-preserved
loop-place-preserved g c =
    let members = c.args.members.now in
    let place = c.loop-place.place in
    let d = c.index-members-place.result in
    let own : (get_or members place d).group ≡ c.args.group = c.loop-place.invariant.own d c.loop-place-test.true in
    let inside : place < length c.args.chains.now.nexts.items = omega (arith, c.loop-place-test.true, c.requires.chains.long) in
    let at : c.index-in-loop-place.result.now ≡ get_or c.args.chains.now.nexts.items place 0 =
    c.index-in-loop-place.ensures ∙ get_or_default c.args.chains.now.nexts.items place c.index-in-loop-place.result.now 0 inside in
    let linked = c.requires.chains.next place d (omega arith) c.loop-place-test.true (omega (arith, own, c.requires.below)) in
    let next : IsNextOf members c.args.group (place + 1) c.index-in-loop-place.result.now =
    subst (IsNextOf members c.args.group (place + 1)) (sym at) (subst (λ i. IsNextOf members i (place + 1) (get_or c.args.chains.now.nexts.items place 0)) own linked) in
    record {
      items = c.in_ok-push.ensures.items
          ∙ ap (λ xs. xs ++ (get_or members place d).item ∷ []) c.loop-place.invariant.items
          ∙ append_assoc c.args.items.now.items (group_of (take place members) c.args.group) ((get_or members place d).item ∷ [])
          ∙ ap (λ xs. c.args.items.now.items ++ xs) (sym (group_of-next members c.args.group place c.index-in-loop-place.result.now d c.loop-place-test.true own next));
      own = next.own;
    }

pub returns : goal.returns
returns g c = c.loop-place.invariant.items ∙ ap (λ ms. c.args.items.now.items ++ group_of ms c.args.group) (take_all c.loop-place.place c.args.members.now (omega arith))
