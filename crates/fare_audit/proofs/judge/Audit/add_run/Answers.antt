use Rattle.std.proofs.Common.{ℕ, ◌<◌, refl, arith, ap, sym, ◌∙◌}
use Rattle.std.proofs.lemmas.Option.{same_Some, slice_get-get_or}
use Rattle.fare_audit.specs.declared.ends.End.{End}
use Rattle.fare_audit.specs.Found.{CoversPair}
use Rattle.fare_audit.proofs.FoundLaws.{ends_later, grows_itself, grows_on, grows_same, pair_later, walked_covers, walked_found}
use Rattle.fare_audit.proofs.RunLaws.{below_more, ends_covered, no_end, none_alights, run_covered}
use Rattle.fare_audit.proofs.judge.Audit.add_run.Goals.{then-ends-to+in_ok-add_rides_to, else-ends-to}
use Rattle.fare_audit.proofs.judge.Audit.add_run.Goals as goal

pub loop-to-init : goal.loop-to-init
loop-to-init c = record { found = c.requires.found; grows = grows_itself c.args.found.now; covers = λ from to lt. absurd (omega (arith, lt)) }

pub add_rides_to-requires-clause-drop_off : goal.add_rides_to-requires-clause-drop_off
add_rides_to-requires-clause-drop_off c = λ f at. ap (λ (x : End). x.drop_off) (same_Some _ _ (sym at ∙ slice_get-get_or c.args.ends.now c.loop-to.to _ c.loop-to-test.true)) ∙ c.if-ends-to.true

pub loop-to-preserved : goal.loop-to-preserved
loop-to-preserved c =
    let self = c.args.self.now in
    let network = c.args.run.now.network in
    let ends = c.args.ends.now in
    let to = c.loop-to.to in
    let was = c.loop-to.invariant in
    elim c.if-ends-to.branch [
      | then-ends-to+in_ok-add_rides_to w ↦ rw w.found-is (record {
        found = w.in_ok-add_rides_to.ensures.found;
        grows = grows_on c.args.found.now c.loop-to.found w.add_rides_to.new.found was.grows w.in_ok-add_rides_to.ensures.grows;
        covers = below_more (λ t. (from : ℕ) → from < t → CoversPair self c.loop-to.found network ends from t) (λ t. (from : ℕ) → from < t → CoversPair self w.add_rides_to.new.found network ends from t) to _
            (λ t all from lt. pair_later self c.loop-to.found w.add_rides_to.new.found w.in_ok-add_rides_to.ensures.grows network ends from t (all from lt)) was.covers
            w.in_ok-add_rides_to.ensures.covers refl;
      })
      | else-ends-to w ↦ rw w.found-is (record {
        found = was.found;
        grows = was.grows;
        covers = below_more (λ t. (from : ℕ) → from < t → CoversPair self c.loop-to.found network ends from t) (λ t. (from : ℕ) → from < t → CoversPair self c.loop-to.found network ends from t) to _
            (λ t all. all) was.covers
            (λ from lt. let within = c.loop-to-test.true in none_alights self c.loop-to.found network ends from to _ _ (slice_get-get_or ends from no_end (omega (arith, lt, within))) (slice_get-get_or ends to _ within) w.if-ends-to.false) refl;
      })
    ]

pub returns-then-is_walked-clause-found : goal.returns-then-is_walked-clause-found
returns-then-is_walked-clause-found c = c.requires.found

pub returns-then-is_walked-clause-grows : goal.returns-then-is_walked-clause-grows
returns-then-is_walked-clause-grows c = grows_itself c.args.found.now

pub returns-then-is_walked-clause-covers : goal.returns-then-is_walked-clause-covers
returns-then-is_walked-clause-covers c =
    run_covered c.args.self.now c.args.found.now c.args.run.now c.args.ends.now c.requires.run c.requires.ends
    (walked_covers c.args.self.now c.args.found.now c.args.run.now.network c.args.ends.now c.requires.found (c.is_walked.ensures c.if-is_walked.true))

pub returns-clause-found : goal.returns-clause-found
returns-clause-found c =
    let self = c.args.self.now in
    let ends = c.args.ends.now in
    let network = c.args.run.now.network in
    let old = c.loop-to.found in
    let new = c.keep_walk.new.self in
    let e = c.in_ok-keep_walk.ensures in
    walked_found self old new network ends c.loop-to.invariant.found e.same.0 e.same.1 e.same.2 e.same.3 e.walks
    (ends_covered self old network ends c.loop-to.to c.loop-to-test.false c.loop-to.invariant.covers)

pub returns-clause-grows : goal.returns-clause-grows
returns-clause-grows c =
    let e = c.in_ok-keep_walk.ensures in
    grows_on c.args.found.now c.loop-to.found c.keep_walk.new.self c.loop-to.invariant.grows (grows_same c.loop-to.found c.keep_walk.new.self e.same.0 e.same.1)

pub returns-clause-covers : goal.returns-clause-covers
returns-clause-covers c =
    let self = c.args.self.now in
    let ends = c.args.ends.now in
    let network = c.args.run.now.network in
    let e = c.in_ok-keep_walk.ensures in
    let all = ends_covered self c.loop-to.found network ends c.loop-to.to c.loop-to-test.false c.loop-to.invariant.covers in
    run_covered self c.keep_walk.new.self c.args.run.now ends c.requires.run c.requires.ends
    (ends_later self c.loop-to.found c.keep_walk.new.self (grows_same c.loop-to.found c.keep_walk.new.self e.same.0 e.same.1) network ends all)
