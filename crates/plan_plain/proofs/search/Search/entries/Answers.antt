use Rattle.std.proofs.Common.{sym, subst}
use Rattle.feed_rows.specs.JourneyEntries.{IsExactAnswer, CoversOffers}
use Rattle.plan_plain.proofs.SearchLaws.{exact_of_gains}
use Rattle.plan_plain.proofs.search.Search.entries.Goals as goal

pub returns-in-Ok-clause-exact : goal.returns-in-Ok-clause-exact
returns-in-Ok-clause-exact c =
    subst (IsExactAnswer c.args.self.now.feed c.args.self.now.query) (sym c.into_items.ensures.value)
    (exact_of_gains _ _ _ _ c.empty-front.ensures c.in-Ok.ensures c.into_items.ensures.front).0

pub returns-in-Ok-clause-covers : goal.returns-in-Ok-clause-covers
returns-in-Ok-clause-covers c =
    subst (CoversOffers c.args.self.now.feed c.args.self.now.query) (sym c.into_items.ensures.value)
    (exact_of_gains _ _ _ _ c.empty-front.ensures c.in-Ok.ensures c.into_items.ensures.front).1
