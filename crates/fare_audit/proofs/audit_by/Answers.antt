use Rattle.std.proofs.Common.{◌≡◌, ◌∙◌, sym, ap, subst, length}
use Rattle.std.proofs.lemmas.Result.{IfOk-weaker}
use Rattle.feed_rows.specs.FareGaps.{days_from, idle_rules, uncovered_pairs}
use Rattle.feed_rows.specs.FeedRows.{FeedRows}
use Rattle.feed_rows.specs.SoundFeed.{IsSoundFeed}
use Rattle.fare_audit.specs.Found.{AuditOf}
use Rattle.fare_audit.specs.Reports.{ArePairsInOrder, Gaps, are_unused}
use Rattle.fare_audit.proofs.ReportLaws.{gaps_are, idle_are}
use Rattle.fare_audit.proofs.RunLaws.{all_covered, ride_stops}
use Rattle.fare_audit.proofs.audit_by.Goals as goal

pub add_trips-requires-clause-found : goal.add_trips-requires-clause-found
add_trips-requires-clause-found c =
    c.in_ok-found.ensures c.in_ok-audit.audit (ap (λ (a : AuditOf). length a.feed.leg_rules) c.in_ok-audit.ensures ∙ sym (c.items.ensures.len ∙ ap (λ (f : FeedRows). length f.leg_rules) c.feed.view_is))

pub returns-clause-gaps : goal.returns-clause-gaps
returns-clause-gaps c =
    let a = c.in_ok-audit.audit in
    let last = c.args.last.0 in
    let found = c.add_trips.new.found in
    let is = c.in_ok-add_trips-in-Ok.ensures in
    let S : AuditOf → Type 0 = λ b. IsSoundFeed b.feed in
    let sound = subst S (sym c.in_ok-audit.ensures) (subst IsSoundFeed c.feed.view_is c.feed.invariant) in
    let M : AuditOf → Type 0 = λ b. days_from b.first last ≡ b.count in
    let many = subst M (sym c.in_ok-audit.ensures) (sym c.days_between-count.ensures.value) in
    IfOk-weaker c.of.result (λ (report : Gaps). ArePairsInOrder found.gaps.items report.gaps) (λ (report : Gaps). report.gaps ≡ uncovered_pairs c.args.feed.now c.args.buyer c.args.first.0 last)
    (λ report ordered. subst (λ (b : AuditOf). report.gaps ≡ uncovered_pairs b.feed b.buyer b.first last) c.in_ok-audit.ensures
    (gaps_are a last many found is.found (all_covered a found is.covers) (λ facts audited. ride_stops a facts sound audited) report.gaps ordered)) c.of.ensures.gaps

pub returns-clause-idle : goal.returns-clause-idle
returns-clause-idle c =
    let a = c.in_ok-audit.audit in
    let last = c.args.last.0 in
    let found = c.add_trips.new.found in
    let is = c.in_ok-add_trips-in-Ok.ensures in
    let S : AuditOf → Type 0 = λ b. IsSoundFeed b.feed in
    let sound = subst S (sym c.in_ok-audit.ensures) (subst IsSoundFeed c.feed.view_is c.feed.invariant) in
    let M : AuditOf → Type 0 = λ b. days_from b.first last ≡ b.count in
    let many = subst M (sym c.in_ok-audit.ensures) (sym c.days_between-count.ensures.value) in
    IfOk-weaker c.of.result (λ (report : Gaps). report.idle ≡ are_unused found.used.items) (λ (report : Gaps). report.idle ≡ idle_rules c.args.feed.now c.args.first.0 last)
    (λ report unused. subst (λ (b : AuditOf). report.idle ≡ idle_rules b.feed b.first last) c.in_ok-audit.ensures
    (idle_are a last many found is.found (all_covered a found is.covers) (λ facts audited. ride_stops a facts sound audited) report.idle unused)) c.of.ensures.idle
