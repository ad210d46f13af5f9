use Rattle.std.proofs.Common.{◌∙◌, ℤ, List, Contains, pos, get_or, subst, take, take_all, ◌++◌, ◌∷◌, [], arith, ap, sym, rules}
use mir.Syntax.{w64}
use mir.Val.{SFits, of_z, to_z}
use Rattle.std.proofs.lemmas.Int.{to_z-of_z}
use Rattle.std.proofs.lemmas.List.{take_more}
use Rattle.std.proofs.lemmas.List.Elements.{Contains-get_or}
use Rattle.feed_rows.specs.FeedRows.{FeedRows}
use Rattle.feed_rows.specs.Shifts.{shifts_of}
use Rattle.fare_audit.specs.Runs.{CoversShift}
use Rattle.fare_audit.proofs.FoundLaws.{grows_itself, grows_on}
use Rattle.fare_audit.proofs.RunLaws.{among_more, shift_later, trip_covered}
use Rattle.fare_audit.proofs.judge.Audit.add_trip.Goals as goal

pub loop-shift-init : goal.loop-shift-init
loop-shift-init c = record { found = c.requires.found; grows = grows_itself c.args.found.now; covers = λ shift at. let none = at.1 in absurd (omega (arith, none)) }

pub add_shift-requires-clause-shift : goal.add_shift-requires-clause-shift
add_shift-requires-clause-shift c =
    let items = c.items-shift-items.result.now in
    let i = c.loop-shift.shift-index in
    let z = get_or items i (pos 0) in
    let fits : SFits w64 z = search rules in
    let same = c.items-shift-items.ensures.value ∙ c.in_ok-shifts.ensures ∙ ap (λ (f : FeedRows). shifts_of f c.args.trip) c.requires.trips in
    subst (λ (y : ℤ). Contains (shifts_of c.args.self.now.feed c.args.trip) y) (sym (to_z-of_z w64 z fits))
    (subst (λ (zs : List ℤ). Contains zs z) same (Contains-get_or items i (pos 0) c.loop-shift-test.true))

pub loop-shift-preserved : goal.loop-shift-preserved
loop-shift-preserved c =
    let self = c.args.self.now in
    let e = c.in_ok-add_shift.ensures in
    let trip = c.args.trip in
    let items = c.items-shift-items.result.now in
    let i = c.loop-shift.shift-index in
    let z = get_or items i (pos 0) in
    let fits : SFits w64 z = search rules in
    record {
      found = e.found;
      grows = grows_on _ c.loop-shift.found _ c.loop-shift.invariant.grows e.grows;
      covers = among_more (CoversShift self c.loop-shift.found trip) (CoversShift self c.add_shift.new.found trip) (take i items) _ (to_z w64 (of_z w64 z))
          (λ y. shift_later self c.loop-shift.found c.add_shift.new.found e.grows trip y) c.loop-shift.invariant.covers e.covers
          (take_more items i (pos 0) c.loop-shift-test.true ∙ ap (λ (y : ℤ). take i items ++ y ∷ []) (sym (to_z-of_z w64 z fits)));
    }

pub returns-clause-covers : goal.returns-clause-covers
returns-clause-covers c =
    let items = c.items-shift-items.result.now in
    let same = take_all c.loop-shift.shift-index items c.loop-shift-test.false ∙ c.items-shift-items.ensures.value ∙ c.in_ok-shifts.ensures ∙ ap (λ (f : FeedRows). shifts_of f c.args.trip) c.requires.trips in
    trip_covered c.args.self.now c.loop-shift.found c.args.trip
    (λ shift at. c.loop-shift.invariant.covers shift (subst (λ (zs : List ℤ). Contains zs shift) (sym same) at))
