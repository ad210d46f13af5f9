use Rattle.std.proofs.Common.{◌∙◌, ◌+◌, sym, refl, ℕ}
use Rattle.answer_page.specs.Charts.{place_html}
use Rattle.answer_page.proofs.FillLaws.{item_kept, none_left}
use Rattle.answer_page.proofs.chart.write_marks.Goals as goal

pub loop-place-preserved : goal.loop-place-preserved
loop-place-preserved c =
    item_kept (place_html c.arrivals-arrivals.result c.prices-prices.result) (λ (n : ℕ) _. n + 1) c.loop-place.page c.write_place.new.page _ c.args.entries.now (c.loop-place.place + 1)
    (c.loop-place.place + 1 + 1) c.loop-place.place c.index-entries-place.result c.loop-place-test.true c.index-entries-place.is c.in_ok-write_place.ensures refl c.loop-place.invariant

pub returns : goal.returns
returns c =
    sym (none_left (place_html c.arrivals-arrivals.result c.prices-prices.result) (λ (n : ℕ) _. n + 1) c.loop-place.page c.args.entries.now (c.loop-place.place + 1) c.loop-place.place c.loop-place-test.false)
    ∙ c.loop-place.invariant
    ∙ rw (c.arrivals-arrivals.ensures, c.prices-prices.ensures) refl
