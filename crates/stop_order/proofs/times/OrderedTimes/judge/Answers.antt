use Rattle.std.proofs.Common.{◌≡◌, ◌<◌, ◌+◌, ◌-◌, ℕ, length, slice_set, refl, sym, ◌∙◌, ap, arith, rules}
use Rattle.std.proofs.lemmas.Grind.{common_steps}
use Rattle.std.specs.Prelude.{◌==◌, ◌&&◌, ◌||◌, not, is_some, Bool, true, false}
use Rattle.std.specs.Option.{option_or}
use Rattle.feed_faults.specs.StopTimeRelations.{is_earlier}
use Rattle.stop_order.specs.Numbered.{numbered_at, no_faults, first_time, last_time, is_timed}
use Rattle.stop_order.specs.Order.{row_at, continues_trip, time_before, place_faults}
use Rattle.stop_order.proofs.ToldLaws.{told_none, told_some}
use Rattle.stop_order.proofs.times.OrderedTimes.judge.Goals as goal
use Rattle.stop_order.proofs.times.OrderedTimes.judge.Goals.{then-ne+in_ok-resize, else-ne, then-does_go_on, else-does_go_on, then-does_go_on-2, else-does_go_on-2, then-is_none, then-does_go_on-3, else-does_go_on-3, else-is_none, then-is_earlier, else-is_earlier}

turn : (none some : Bool) → not none ≡ some → none ≡ not some
turn true some e = ap not e
turn false some e = ap not e

pub returns : goal.returns
unfolding place_faults
returns g c =
    let times = g.T.StopTimes.times c.args.self.now.times.now in
    let row = row_at c.args.self.now.keys.now in
    let place = c.args.place in
    let old = c.args.faults.now.items in
    let told = c.requires.told.time in
    let within = c.requires.within in
    let size = c.len-count.ensures in
    let time : c.time-time.result ≡ numbered_at times (row place) = c.time-time.ensures in
    let first : c.or-first.result ≡ first_time (numbered_at times (row place)) = search rules in
    let last : c.or-last.result ≡ last_time (numbered_at times (row place)) = search rules in
    let before : c.if-does_go_on.before ≡ time_before times row place =
    elim c.if-does_go_on.branch [
      | then-does_go_on w ↦ let on = sym c.goes_on-does_go_on.ensures ∙ w.if-does_go_on.true in w.before-is ∙ (rw on at told)
      | else-does_go_on w ↦ let off = sym c.goes_on-does_go_on.ensures ∙ w.if-does_go_on.false in w.before-is ∙ (rw off at told)
    ] in
    let repeated : c.if-does_go_on-2.found ≡ (continues_trip times row place && ((numbered_at times (row (place - 1))).sequence == (numbered_at times (row place)).sequence)) =
    elim c.if-does_go_on-2.branch [
      | then-does_go_on-2 w ↦ let on = sym c.goes_on-does_go_on.ensures ∙ w.if-does_go_on-2.true in w.found-is ∙ rw (on, w.time.ensures, time) refl
      | else-does_go_on-2 w ↦ let off = sym c.goes_on-does_go_on.ensures ∙ w.if-does_go_on-2.false in w.found-is ∙ w.if-does_go_on-2.false ∙ rw off refl
    ] in
    let untimed : c.is_none.result ≡ not (is_timed (numbered_at times (row place))) = turn c.is_none.result (is_timed (numbered_at times (row place))) (sym c.is_none.ensures ∙ ap is_some first) in
    let missing : c.if-is_none.found ≡ (not (is_timed (numbered_at times (row place))) && (not (continues_trip times row place) || not (continues_trip times row (place + 1)))) =
    elim c.if-is_none.branch [
      | then-is_none w ↦
          let unset = sym untimed ∙ w.if-is_none.true in
          elim w.if-does_go_on-3.branch [
            | then-does_go_on-3 v ↦ let on = sym c.goes_on-does_go_on.ensures ∙ v.if-does_go_on-3.true in w.found-is ∙ ap not (v.found-is ∙ v.goes_on.ensures) ∙ rw (unset, on) refl
            | else-does_go_on-3 v ↦ let off = sym c.goes_on-does_go_on.ensures ∙ v.if-does_go_on-3.false in w.found-is ∙ ap not (v.found-is ∙ v.if-does_go_on-3.false) ∙ rw (unset, off) refl
          ]
      | else-is_none w ↦ let set = sym untimed ∙ w.if-is_none.false in w.found-is ∙ w.if-is_none.false ∙ rw set refl
    ] in
    let own : c.is_earlier.result ≡ is_earlier (last_time (numbered_at times (row place))) (first_time (numbered_at times (row place))) = c.is_earlier.ensures ∙ rw (last, first) refl in
    let decrease : c.if-is_earlier.found ≡ (is_earlier (last_time (numbered_at times (row place))) (first_time (numbered_at times (row place))) || is_earlier (first_time (numbered_at times (row place))) (time_before times row place)) =
    elim c.if-is_earlier.branch [
      | then-is_earlier w ↦ w.found-is ∙ w.if-is_earlier.true ∙ rw (sym own ∙ w.if-is_earlier.true) refl
      | else-is_earlier w ↦ w.found-is ∙ w.is_earlier-else-is_earlier.ensures ∙ rw (first, before, sym own ∙ w.if-is_earlier.false) refl
    ] in
    let found : record { is_repeated = c.if-does_go_on-2.found; is_end_time_missing = c.if-is_none.found; do_times_decrease = c.if-is_earlier.found } ≡ place_faults times row place = rw (repeated, missing, decrease) refl in
    let apart : (k : ℕ) → k < place → row k ≡ row place → ⊥ = λ k lt same. c.args.self.now.placed.apart k place lt within same in
    let late : c.or.result ≡ option_or (last_time (numbered_at times (row place))) (time_before times row place) =
    c.or.ensures ∙ rw (last, before) refl in
    elim c.if-ne.branch [
      | then-ne+in_ok-resize w ↦
          let list = w.resize.new.self.items in
          let long = w.in_ok-resize.ensures.len in
          let ok = w.resize.new.self.ok.0 in
          let many : length list ≡ length times = omega arith in
          let blank : w.default-then-ne.result ≡ no_faults = search rules in
          let made = rw (size, blank) at w.in_ok-resize.ensures.items in
          let is : w.row.result ≡ row place = w.row.ensures in
          let put : c.if-ne.faults.items ≡ slice_set list (row place) (place_faults times row place) = grind (arith, common_steps, found, is) in
          rw put (told_some times row place c.args.latest.now c.or.result old list _ c.requires.told apart late made many (c.args.self.now.placed.own place within))
      | else-ne w ↦
          let none : place_faults times row place ≡ no_faults = sym found ∙ grind (arith, common_steps) in
          rw w.faults-is (told_none times row place c.args.latest.now c.or.result old c.requires.told apart late none)
    ]
