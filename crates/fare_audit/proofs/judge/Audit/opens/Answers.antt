use Rattle.std.proofs.Common.{◌≡◌, ◌∙◌, sym, ap, subst, Some}
use Rattle.std.specs.Prelude.{slice_get, is_some}
use Rattle.std.specs.List.{list_any}
use Rattle.std.proofs.lemmas.Option.{slice_get-get_or, slice_get_past}
use Rattle.feed_rows.specs.FareChoices.{is_open}
use Rattle.feed_rows.specs.FeedRows.{FeedRows}
use Rattle.feed_rows.specs.declared.rows.LegRuleRow.{LegRuleRow}
use Rattle.plain_laws.specs.Plain.{filled_and}
use Rattle.fare_audit.specs.Found.{AuditOf}
use Rattle.fare_audit.proofs.FoundLaws.{least_is_some, some_mapped}
use Rattle.fare_audit.proofs.judge.Audit.opens.Goals as goal

pub returns-in-Some : goal.returns-in-Some
returns-in-Some c =
    let rule = c.args.rule in
    let s = c.in-Some in
    let rows = c.items.result.now in
    let at = ap (λ rows. slice_get rows rule.0) (sym (c.items.ensures.value ∙ ap (λ (f : FeedRows). f.leg_rules) (c.behind-self.view_is ∙ c.feed.ensures.value))) ∙ slice_get-get_or rows rule.0 s.row.now s.ensures.lookup.3.0 ∙ ap Some (sym s.ensures.lookup.1) in
    let feed = c.self.inside.feed.now in
    let opened : is_some c.least.result ≡ list_any (is_open s.row.now.product c.self.inside.buyer) feed.products =
    some_mapped (λ p. p.row) c.least.result ∙ ap is_some (c.least.ensures.row feed c.self.invariant.products) ∙ least_is_some feed s.row.now.product c.self.inside.buyer in
    let P : AuditOf → Type 0 = λ a. c.is_some.result ≡ list_any (is_open s.row.now.product a.buyer) a.feed.products in
    subst P c.self.view_is (c.is_some.ensures ∙ opened)
    ∙ sym (ap (λ o. filled_and o (λ (row : LegRuleRow). list_any (is_open row.product c.args.self.now.buyer) c.args.self.now.feed.products)) at)

pub returns-in-None : goal.returns-in-None
returns-in-None c =
    let rule = c.args.rule in
    let none = ap (λ rows. slice_get rows rule.0) (sym (c.items.ensures.value ∙ ap (λ (f : FeedRows). f.leg_rules) (c.behind-self.view_is ∙ c.feed.ensures.value))) ∙ slice_get_past c.items.result.now rule.0 c.in-None.ensures.lookup.3 in
    sym (ap (λ o. filled_and o (λ (row : LegRuleRow). list_any (is_open row.product c.args.self.now.buyer) c.args.self.now.feed.products)) none)
