use Rattle.std.proofs.Common.{refl}
use Rattle.plan_words.specs.Request.{price_request}
use Rattle.command_answers.specs.NamedRides.{named_query}
use Rattle.command_answers.proofs.PriceLaws.{price_due}
use Rattle.command_answers.proofs.prices.price_outcome.Goals as goal

pub returns-in_ok-text-in-Ok : goal.returns-in_ok-text-in-Ok
returns-in_ok-text-in-Ok c =
    let query = c.in-Ok.query in
    price_due _ _ (price_request c.args.words.now) (named_query query) _ _ _
    refl c.in-Ok.ensures.value c.answered.ensures.told c.answered.ensures.text
    c.in_ok-text-in-Ok.ensures
