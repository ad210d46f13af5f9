use Rattle.std.proofs.Common.{◌≡◌, ◌∙◌, ap, subst, List}
use Rattle.std.specs.List.{list_any}
use Rattle.transit_base.specs.declared.numbers.RuleId.{RuleId}
use Rattle.feed_rows.specs.LegRules.{selected_rules}
use Rattle.feed_rows.specs.Legs.{leg_facts}
use Rattle.fare_audit.specs.Found.{AuditOf, MarksAll, opens_rule}
use Rattle.fare_audit.proofs.FoundLaws.{any_selected}
use Rattle.fare_audit.proofs.judge.Audit.judge.Goals as goal

pub returns-clause-value : goal.returns-clause-value
returns-clause-value c =
    let feed = c.self.inside.feed.now in
    let ride = c.args.ride.now in
    let leg = c.in_ok-leg.ensures feed c.self.invariant.timeframes in
    let P : AuditOf → Type 0 = λ a. c.in_ok-rules.rules ≡ selected_rules a.feed (leg_facts a.feed ride) in
    let chosen = subst P c.self.view_is (c.in_ok-rules.ensures feed c.self.invariant.rules ∙ ap (selected_rules feed) leg) in
    c.opens_any.ensures ∙ ap (list_any (opens_rule c.args.self.now)) (c.items-2.ensures.value ∙ chosen) ∙ any_selected c.args.self.now (leg_facts c.args.self.now.feed ride)

pub returns-clause-marks : goal.returns-clause-marks
returns-clause-marks c =
    let feed = c.self.inside.feed.now in
    let ride = c.args.ride.now in
    let leg = c.in_ok-leg.ensures feed c.self.invariant.timeframes in
    let P : AuditOf → Type 0 = λ a. c.in_ok-rules.rules ≡ selected_rules a.feed (leg_facts a.feed ride) in
    let chosen = subst P c.self.view_is (c.in_ok-rules.ensures feed c.self.invariant.rules ∙ ap (selected_rules feed) leg) in
    let Q : List RuleId → Type 0 = λ rs. MarksAll rs c.args.used.now c.mark.new.used in
    subst Q (c.items.ensures.value ∙ chosen) c.mark.ensures.marks
