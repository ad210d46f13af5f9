use Rattle.std.proofs.Common.{◌∙◌, sym, ap, refl, None}
use mathlib.Core.Bool.{true≢false}
use Rattle.plain_laws.proofs.Laws.{bytes_eq-true, eq-bytes_eq}
use Rattle.feed_rows.specs.EntryText.{text_of_entries}
use Rattle.feed_rows.specs.Journeys.{Asked}
use Rattle.ticket_read.proofs.EntryLaws.{only_read, is_text, told_read, none_read}
use Rattle.ticket_read.proofs.reader.Reader.entries.Goals as goal

pub returns-in_default-clause-only : goal.returns-in_default-clause-only
returns-in_default-clause-only c entries t =
    only_read c.args.self.now.feed c.args.self.now.query c.args.self.now c.args.text.now None c.requires refl
    (sym c.in_default.is ∙ c.in_ok-entries.ensures) entries t

pub returns-then-branch-clause-told : goal.returns-then-branch-clause-told
returns-then-branch-clause-told c =
    told_read c.args.self.now.feed c.args.self.now.query c.args.self.now c.args.text.now c.in_ok-entries.field-0 c.in-Some.entries refl
    c.in_ok-entries.ensures c.in-Some.is
    (bytes_eq-true (text_of_entries c.args.self.now.feed c.in-Some.entries) c.args.text.now (
    sym (is_text c.args.self.now.feed c.self.inside.timetable.now c.in-Some.entries c.items.result.now c.args.text.now _
    (ap (λ (a : Asked). a.feed) c.self.view_is) c.items.ensures.value c.in_ok-is_text_of.ensures) ∙ c.if-branch.true))

pub returns-then-branch-clause-only : goal.returns-then-branch-clause-only
returns-then-branch-clause-only c entries t =
    sym c.in-Some.is ∙ only_read c.args.self.now.feed c.args.self.now.query c.args.self.now c.args.text.now c.in_ok-entries.field-0 c.requires refl
    c.in_ok-entries.ensures entries t

pub returns-clause-only : goal.returns-clause-only
returns-clause-only c entries t =
    none_read c.args.self.now.feed c.args.self.now.query c.args.self.now c.args.text.now c.in_ok-entries.field-0 c.in-Some.entries c.requires
    refl c.in_ok-entries.ensures c.in-Some.is (λ same.
    let is = is_text c.args.self.now.feed c.self.inside.timetable.now c.in-Some.entries c.items.result.now c.args.text.now _
    (ap (λ (a : Asked). a.feed) c.self.view_is) c.items.ensures.value c.in_ok-is_text_of.ensures in
    absurd (true≢false (sym (eq-bytes_eq (text_of_entries c.args.self.now.feed c.in-Some.entries) c.args.text.now same) ∙ sym is ∙ c.if-branch.false))) entries t
