use Rattle.std.proofs.Common.{◌∙◌, ap}
use Rattle.fare_transfer_rules.specs.Fits.{group_fits}
use Rattle.fare_transfer_rules.proofs.ClassLaws.{group_is}
use Rattle.fare_transfer_rules.proofs.XferRules.matches_from.Goals as goal

pub returns : goal.returns
returns c = λ feed are.
    c.group_fits.ensures ∙ ap (λ named. group_fits named c.args.field c.args.group) c.deref.ensures.value
    ∙ group_is feed (λ r. r.from) c.args.self.now.froms.items are.froms c.args.field c.args.group
