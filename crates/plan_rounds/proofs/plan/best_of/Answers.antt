use Rattle.std.proofs.Common.{subst, sym}
use Rattle.std.specs.Prelude.{List}
use Rattle.feed_rows.specs.declared.fares.Entry.{Entry}
use Rattle.feed_rows.specs.JourneyEntries.{CoversOffers, IsExactAnswer}
use Rattle.plan_rounds.proofs.PlannedLaws.{exact_of_both}
use Rattle.plan_rounds.specs.Planned.{AddsEntries}
use Rattle.plan_rounds.proofs.plan.best_of.Goals as goal

pub returns : goal.returns
returns c = λ feed query known found covers.
    subst (λ (entries : List Entry). IsExactAnswer feed query entries × CoversOffers feed query entries) (sym c.into_items.ensures.value)
    (exact_of_both feed query c.args.known.items c.args.found.items _ _
    (subst (λ (old : List Entry). AddsEntries c.args.known.items old c.offer_entries.new.front) c.empty-front.ensures c.in_ok-offer_entries.ensures)
    c.in_ok-offer_entries-2.ensures known found covers c.into_items.ensures.front)
