use Rattle.std.proofs.Common.{ap, arith, length, ◌∙◌}
use Rattle.std.proofs.lemmas.List.{length-map}
use Rattle.commands.specs.Table.{form_of}
use Rattle.commands.specs.declared.table.CommandName.TheVariants as command
use Rattle.plan_words.specs.Words.{behind}
use Rattle.plan_words.proofs.RideLaws.{as_many}
use Rattle.plan_words.proofs.request.price_in.Goals as goal

pub rides_in-requires-clause-some : goal.rides_in-requires-clause-some
rides_in-requires-clause-some c =
    let many = as_many (form_of command.Price) (behind c.args.words.now) c.requires.fits in
    let found = c.requires.found in
    let long = ap length (c.in_ok-texts.ensures ∙ found.named) in
    omega (arith, many.fewest, long, length-map c.in_ok-texts.texts.items (λ text. text.now))

pub rides_in-requires-clause-few : goal.rides_in-requires-clause-few
rides_in-requires-clause-few c =
    let many = as_many (form_of command.Price) (behind c.args.words.now) c.requires.fits in
    let found = c.requires.found in
    let long = ap length (c.in_ok-texts.ensures ∙ found.named) in
    omega (arith, many.most, long, length-map c.in_ok-texts.texts.items (λ text. text.now))
