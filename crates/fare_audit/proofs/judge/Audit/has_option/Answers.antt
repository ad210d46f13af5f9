use Rattle.std.proofs.Common.{◌∙◌, ap, refl, length, arith}
use Rattle.fare_audit.proofs.FoundLaws.{grows_itself, judged_found, marks_selected}
use Rattle.fare_audit.proofs.SetLaws.{marks_written}
use Rattle.fare_audit.proofs.judge.Audit.has_option.Goals as goal

pub returns-in-Some-clause-value : goal.returns-in-Some-clause-value
returns-in-Some-clause-value c =
    let right = c.requires.found.verdicts c.args.ride.now c.in-Some.has_option c.in-Some.ensures in
    right.value

pub returns-in-Some-clause-found : goal.returns-in-Some-clause-found
returns-in-Some-clause-found c = c.requires.found

pub returns-in-Some-clause-grows : goal.returns-in-Some-clause-grows
returns-in-Some-clause-grows c = grows_itself c.args.found.now

pub returns-in-Some-clause-marks : goal.returns-in-Some-clause-marks
returns-in-Some-clause-marks c =
    let right = c.requires.found.verdicts c.args.ride.now c.in-Some.has_option c.in-Some.ensures in
    right.marks

pub judge-requires : goal.judge-requires
judge-requires c = ap length c.deref_mut.ensures.value ∙ c.requires.found.many

pub returns-clause-found : goal.returns-clause-found
returns-clause-found c =
    let used = c.args.found.now.used in
    let marks = marks_written _ used.items _ c.judge.new.used used.len c.deref_mut.ensures.value (omega (arith, used.ok.0)) c.in_ok-has_option.ensures.marks in
    judged_found c.args.self.now c.args.found.now _ c.args.ride.now c.in_ok-has_option.has_option c.requires.found c.requires.like marks c.in_ok-has_option.ensures.value refl refl refl c.put.ensures

pub returns-clause-grows : goal.returns-clause-grows
returns-clause-grows c =
    let used = c.args.found.now.used in
    let marks = marks_written _ used.items _ c.judge.new.used used.len c.deref_mut.ensures.value (omega (arith, used.ok.0)) c.in_ok-has_option.ensures.marks in
    record { used = marks.kept; gaps = λ pair at. at }

pub returns-clause-marks : goal.returns-clause-marks
returns-clause-marks c =
    let used = c.args.found.now.used in
    let marks = marks_written _ used.items _ c.judge.new.used used.len c.deref_mut.ensures.value (omega (arith, used.ok.0)) c.in_ok-has_option.ensures.marks in
    marks_selected c.args.self.now.feed c.args.ride.now used.items _ c.requires.found.many marks
