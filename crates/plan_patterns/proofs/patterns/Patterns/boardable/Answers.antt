use Rattle.std.proofs.Common.{◌∙◌, sym, ap, subst, ◌<◌, length, [], arith}
use Rattle.std.proofs.lemmas.List.{length-map}
use Rattle.std.specs.Option.{option_map_or}
use Rattle.plan_patterns.specs.declared.pattern.Pattern.{Pattern}
use Rattle.plan_patterns.specs.Columns.{AreBoardable, IsPattern}
use Rattle.plan_patterns.specs.Grouping.{PatternOf, PatternsOf, pattern_of, runs_at}
use Rattle.plan_patterns.proofs.ColumnLaws.{boardable_since}
use Rattle.plan_patterns.proofs.GroupingLaws.{pattern_at}
use Rattle.plan_patterns.proofs.patterns.Patterns.boardable.Goals as goal

pub index-requires : goal.index-requires
index-requires c =
    let items = c.self.inside.patterns.items in
    let within = subst (λ (v : PatternsOf). c.args.pattern < length v.patterns) (sym c.self.view_is) c.requires.pattern in
    let long = length-map items pattern_of in
    omega (arith, within, long)

pub since-requires : goal.since-requires
since-requires c =
    let items = c.self.inside.patterns.items in
    let k = c.args.pattern in
    let within = subst (λ (v : PatternsOf). k < length v.patterns) (sym c.self.view_is) c.requires.pattern in
    let long = length-map items pattern_of in
    let lt : k < length items = omega (arith, within, long) in
    let is : IsPattern c.self.inside.feed.now c.index.result.now = subst (IsPattern c.self.inside.feed.now) (sym c.index.ensures) (c.self.invariant.0 k c.index.result.now lt) in
    (is.departures.each c.args.position c.group.result.now c.group.ensures).rises

pub returns : goal.returns
returns c =
    let items = c.self.inside.patterns.items in
    let k = c.args.pattern in
    let within = subst (λ (v : PatternsOf). k < length v.patterns) (sym c.self.view_is) c.requires.pattern in
    let long = length-map items pattern_of in
    let lt : k < length items = omega (arith, within, long) in
    let is : IsPattern c.self.inside.feed.now c.index.result.now = subst (IsPattern c.self.inside.feed.now) (sym c.index.ensures) (c.self.invariant.0 k c.index.result.now lt) in
    let runs = ap (λ o. option_map_or (λ (p : PatternOf). p.runs) o []) (pattern_at items k c.index.result.now lt) ∙ ap (λ (p : Pattern). p.runs.items) (sym c.index.ensures) in
    subst (λ (v : PatternsOf). AreBoardable v.feed (runs_at v.patterns k) c.args.position c.args.from.0 c.since.result.now) c.self.view_is
    (subst (λ rs. AreBoardable c.self.inside.feed.now rs c.args.position c.args.from.0 c.since.result.now) (sym runs)
    (boardable_since _ _ _ _ _ _ (is.departures.each c.args.position c.group.result.now c.group.ensures) c.since.ensures))
