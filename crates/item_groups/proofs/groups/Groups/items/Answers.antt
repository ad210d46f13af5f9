use Rattle.std.proofs.Common.{◌∙◌, length, get_or, ap, []}
use Rattle.plain_laws.specs.Plain.{joined_below}
use Rattle.item_groups.proofs.PartLaws.{joined-parts}
use Rattle.item_groups.proofs.groups.Groups.items.Goals as goal

pub returns : goal.returns
returns g c =
    c.as_slice.ensures.value ∙ joined-parts c.self.inside.ends.items c.self.inside.items.items c.self.invariant
    ∙ ap (λ groups. joined_below (length groups) (λ i. get_or groups i [])) c.self.view_is
