use Rattle.std.proofs.Common.{◌∙◌, ◌++◌, ℕ, List, sym, ap, get_or}
use Rattle.answer_page.specs.Html.{filled, part_html, next_after}
use Rattle.answer_page.proofs.FillLaws.{item_more, none_left, next_within}
use Rattle.answer_page.proofs.page.Page.fill.Goals as goal

pub loop-byte-preserved : goal.loop-byte-preserved
loop-byte-preserved c =
    let items = c.as_bytes-byte-items.result.now in
    let i = c.loop-byte.byte-index in
    let f : ℕ → ℕ → List ℕ = λ next byte. part_html byte c.args.values.now next in
    let after : ℕ → ℕ → ℕ = λ next byte. next_after byte next in
    let more = item_more f after c.loop-byte.self items c.loop-byte.next i 0 c.loop-byte-test.true ∙ c.loop-byte.invariant.0 in (
      rw (c.in_ok-next.ensures.html, c.in_ok-next.ensures.next) more,
      rw c.in_ok-next.ensures.next (next_within (get_or items i 0) c.loop-byte.next i c.loop-byte.invariant.1),
    )

pub returns : goal.returns
returns c =
    sym (none_left (λ next byte. part_html byte c.args.values.now next) (λ next byte. next_after byte next) c.loop-byte.self c.as_bytes-byte-items.result.now c.loop-byte.next c.loop-byte.byte-index c.loop-byte-test.false)
    ∙ c.loop-byte.invariant.0 ∙ ap (λ template. c.args.self.now ++ filled template c.args.values.now) c.as_bytes-byte-items.ensures.value
