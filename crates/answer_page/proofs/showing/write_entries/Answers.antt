use Rattle.std.proofs.Common.{◌∙◌, ◌+◌, sym, refl, ℕ}
use Rattle.answer_page.specs.Journeys.{journey_html}
use Rattle.answer_page.proofs.FillLaws.{item_placed, none_left}
use Rattle.answer_page.proofs.showing.write_entries.Goals as goal

pub loop-place-preserved : goal.loop-place-preserved
loop-place-preserved c =
    item_placed (journey_html c.args.names.now c.page_date-date.result.now c.times-times.result) (λ (n : ℕ) _. n + 1) c.loop-place.page c.write_journey.new.page _ c.args.entries.now (c.loop-place.place + 1)
    (c.loop-place.place + 1 + 1) c.loop-place.place c.loop-place-test.true c.in_ok-write_journey.ensures (λ _. refl) c.loop-place.invariant

pub returns : goal.returns
returns c =
    sym (none_left (journey_html c.args.names.now c.page_date-date.result.now c.times-times.result) (λ (n : ℕ) _. n + 1) c.loop-place.page c.args.entries.now (c.loop-place.place + 1) c.loop-place.place c.loop-place-test.false)
    ∙ c.loop-place.invariant
    ∙ rw (c.page_date-date.ensures, c.times-times.ensures) refl
