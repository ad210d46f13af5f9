use Rattle.std.proofs.Common.{List, subst, sym}
use Rattle.std.specs.Prelude.{All}
use Rattle.std.proofs.lemmas.List.Elements.{All-nil}
use Rattle.feed_rows.specs.declared.fares.Entry.{Entry}
use Rattle.feed_rows.specs.JourneyEntries.{IsEntry}
use Rattle.plan_rounds.proofs.PlannedLaws.{adds_right}
use Rattle.plan_rounds.specs.Planned.{AddsEntries}
use Rattle.plan_rounds.proofs.plan.better_of.Goals as goal

pub returns : goal.returns
returns c = λ feed query first second.
    subst (All (IsEntry feed query)) (sym c.into_items.ensures.value)
    (adds_right (IsEntry feed query) c.args.second.items _ _ c.in_ok-offer_entries-2.ensures
    (adds_right (IsEntry feed query) c.args.first.items _ _
    (subst (λ (old : List Entry). AddsEntries c.args.first.items old c.offer_entries.new.front) c.empty-front.ensures c.in_ok-offer_entries.ensures)
    (All-nil (IsEntry feed query)) first)
    second)
