use Rattle.std.proofs.Common.{◌∙◌, sym, ap, Bool}
use Rattle.std.proofs.Common.{Vec, Global}
use Rattle.std.proofs.lemmas.Bool.{false≢true}
use Rattle.fare_audit.specs.Found.{is_marked}
use Rattle.fare_audit.proofs.FoundLaws.{covered_by_judgement, gap_here, grows_on, noted_found}
use Rattle.fare_audit.proofs.judge.Audit.add_ride.Goals as goal

pub has_option-requires-clause-like : goal.has_option-requires-clause-like
has_option-requires-clause-like c = (c.requires.ride.0, c.requires.ride.1.audited, c.requires.ride.1.like)

pub note-requires : goal.note-requires
note-requires c = c.in_ok-has_option.ensures.found.noted

pub returns-in_ok-note-clause-found : goal.returns-in_ok-note-clause-found
returns-in_ok-note-clause-found c =
    let e = c.in_ok-note.ensures in
    noted_found c.args.self.now c.has_option.new.found c.note.new.self _ c.in_ok-has_option.ensures.found e.same.0 e.same.1 e.same.2 e.noted e.kept e.tells
    (gap_here c.args.self.now c.args.network c.args.from.now c.args.to.now c.requires.ride.0 c.requires.ride.1 (sym c.in_ok-has_option.ensures.value ∙ c.if-not-branch.true))

pub returns-in_ok-note-clause-grows : goal.returns-in_ok-note-clause-grows
returns-in_ok-note-clause-grows c =
    let e = c.in_ok-note.ensures in
    grows_on c.args.found.now c.has_option.new.found c.note.new.self c.in_ok-has_option.ensures.grows
    (record { used = λ i at. ap (λ (used : Vec Bool Global). is_marked used.items i) e.same.0 ∙ at; gaps = e.kept })

pub returns-in_ok-note-clause-covers : goal.returns-in_ok-note-clause-covers
returns-in_ok-note-clause-covers c =
    λ facts is. covered_by_judgement c.args.self.now c.args.network c.args.from.now c.args.to.now c.note.new.self _ facts is is.like (λ off. c.in_ok-note.ensures.here)
    (λ i e. ap (λ (used : Vec Bool Global). is_marked used.items i) c.in_ok-note.ensures.same.0 ∙ c.in_ok-has_option.ensures.marks i e)

pub returns-else-not-branch-clause-covers : goal.returns-else-not-branch-clause-covers
returns-else-not-branch-clause-covers c =
    λ facts is. covered_by_judgement c.args.self.now c.args.network c.args.from.now c.args.to.now c.has_option.new.found _ facts is is.like (λ off. absurd (false≢true (sym off ∙ sym c.in_ok-has_option.ensures.value ∙ c.if-not-branch.false)))
    c.in_ok-has_option.ensures.marks
