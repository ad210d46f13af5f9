use Rattle.std.proofs.Common.{◌≡◌, ◌∙◌, All, subst, take_all, List, get_or, ap, take, refl, sym, Bool, true, false}
use mathlib.Core.Bool.{not, beq}
use Rattle.std.proofs.lemmas.List.{take_more}
use Rattle.std.proofs.lemmas.List.Elements.{All-push}
use Rattle.feed_rows.specs.declared.rows.TimeframeRow.{TimeframeRow}
use Rattle.feed_rows.specs.FeedRows.{FeedRows}
use Rattle.feed_rows.specs.ServiceDays.{is_active}
use Rattle.fare_audit.proofs.days.have_same_services.Goals as goal

bits : (a b : Bool) → not (beq a b) ≡ false → a ≡ b
bits true true e = refl
bits false false e = refl
bits true false e = absurd (cc)
bits false true e = absurd (cc)

pub returns : goal.returns
returns c =
    λ same.
    let all = take_all c.loop-row.row-index c.items-row-items.result.now c.loop-row-test.false ∙ c.items-row-items.ensures.value ∙ ap (λ (f : FeedRows). f.timeframes) c.feed.view_is in
    let P : List TimeframeRow → Type 0 = All (λ row. is_active c.args.feed.now row.service c.args.a.0 ≡ is_active c.args.feed.now row.service c.args.b.0) in
    subst P all c.loop-row.invariant

pub loop-row-preserved : goal.loop-row-preserved
loop-row-preserved c =
    let P : TimeframeRow → Type 0 = λ row. is_active c.args.feed.now row.service c.args.a.0 ≡ is_active c.args.feed.now row.service c.args.b.0 in
    let rows = c.items-row-items.result.now in
    let same = sym (c.active.ensures c.args.feed.now c.requires.calendar) ∙ bits c.active.result c.active-in-loop-row.result c.if-active.false ∙ c.active-in-loop-row.ensures c.args.feed.now c.requires.calendar in
    rw (take_more rows c.loop-row.row-index (record { frame = record { 0 = 0 }; service = record { 0 = 0 }; start = 0; end = 0 }) c.loop-row-test.true) (All-push P (take c.loop-row.row-index rows) (get_or rows c.loop-row.row-index (record { frame = record { 0 = 0 }; service = record { 0 = 0 }; start = 0; end = 0 })) c.loop-row.invariant same)
