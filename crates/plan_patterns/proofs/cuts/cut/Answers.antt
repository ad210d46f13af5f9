use Rattle.std.proofs.Common.{◌∙◌, ap, arith, length, sym}
use Rattle.std.proofs.lemmas.List.{length-map}
use Rattle.plan_patterns.specs.declared.cuts.RunWithHalts.{RunWithHalts}
use Rattle.plan_patterns.proofs.CutLaws.{alike, cut_all, cut_more, cut_none, cut_same}
use Rattle.plan_patterns.proofs.cuts.cut.Goals as goal
use Rattle.plan_patterns.proofs.cuts.cut.Goals.{then-not-goes_on+in_ok-of+in_ok-push, else-not-goes_on}

pub goes_on-requires : goal.goes_on-requires
goes_on-requires c = c.loop-at-test.true

pub halts_from-own-requires : goal.halts_from-own-requires
halts_from-own-requires c =
    let within = c.loop-at.invariant.within in
    omega (arith, c.loop-at-test.true, within)

pub slice_bounds-of-count : goal.slice_bounds-of-count
slice_bounds-of-count c =
    let within = c.loop-at.invariant.within in
    let many = ap length c.requires.runs ∙ length-map c.args.together.now (λ (entry : RunWithHalts). entry.run) in
    omega (arith, c.loop-at-test.true, within, many)

pub slice_bounds-of-start : goal.slice_bounds-of-start
slice_bounds-of-start c =
    let within = c.loop-at.invariant.within in
    let many = ap length c.requires.runs ∙ length-map c.args.together.now (λ (entry : RunWithHalts). entry.run) in
    omega (arith, c.loop-at-test.true, within, many)

pub slice_bounds-of-end : goal.slice_bounds-of-end
slice_bounds-of-end c =
    let within = c.loop-at.invariant.within in
    let many = ap length c.requires.runs ∙ length-map c.args.together.now (λ (entry : RunWithHalts). entry.run) in
    omega (arith, c.loop-at-test.true, within, many)

pub of-requires : goal.of-requires
of-requires c = record {
  runs = alike c.args.timetable.now c.args.together.now c.args.runs.now c.loop-at.start c.loop-at.at c.loop-at.patterns.items _ c.requires.own c.requires.runs c.loop-at-test.true c.loop-at.invariant c.halts_from-own.ensures;
}

pub loop-at-init : goal.loop-at-init
loop-at-init c = cut_none _ _ _ c.new-patterns.ensures.items

pub loop-at-preserved : goal.loop-at-preserved
loop-at-preserved c =
    elim c.if-not-goes_on.branch [
      | then-not-goes_on+in_ok-of+in_ok-push w ↦
          rw (w.patterns-is, w.start-is) (cut_more c.args.timetable.now c.args.together.now c.args.runs.now c.loop-at.start c.loop-at.at c.loop-at.patterns.items _ _ _ c.requires.runs c.loop-at-test.true c.loop-at.invariant (sym c.goes_on.ensures ∙ w.if-not-goes_on.true) w.halts_from-own.ensures w.in_ok-of.ensures.built w.in_ok-of.ensures.halts w.in_ok-of.ensures.runs w.in_ok-push.ensures.items)
      | else-not-goes_on w ↦
          rw (w.patterns-is, w.start-is) (cut_same c.args.timetable.now c.args.together.now c.loop-at.start c.loop-at.at c.loop-at.patterns.items c.requires.rises c.loop-at.invariant (sym c.goes_on.ensures ∙ w.if-not-goes_on.false))
    ]

pub returns : goal.returns
returns c = cut_all c.args.timetable.now c.args.together.now c.args.runs.now c.loop-at.start c.loop-at.at c.loop-at.patterns.items c.requires.runs (omega arith) c.loop-at.invariant
