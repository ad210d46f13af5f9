use Rattle.std.proofs.Common.{◌≡◌, subst, Contains, ⊎_elim}
use Rattle.std.proofs.lemmas.List.Elements.{Contains-append_left, Contains-push}
use Rattle.ride_cache.specs.Kept.{Holds}
use Rattle.fare_audit.proofs.FoundLaws.{still_noted}
use Rattle.fare_audit.proofs.found.Found.note.Goals as goal

pub returns-clause-noted : goal.returns-clause-noted
returns-clause-noted c =
    let found = c.drop_doubles.new.self in
    let noted = still_noted c.args.self.now found c.requires c.drop_doubles.ensures.same.2 c.drop_doubles.ensures.kept in
    λ p at. rw c.in_ok-push.ensures.items (⊎_elim
    (λ (old : Holds found.noted p). Contains-append_left found.gaps.items _ p (noted p old))
    (λ (new : c.args.pair ≡ p). subst (Contains _) new (Contains-push found.gaps.items c.args.pair))
    (c.put.ensures p at))

pub returns-clause-kept : goal.returns-clause-kept
returns-clause-kept c =
    λ p at. rw c.in_ok-push.ensures.items (Contains-append_left c.drop_doubles.new.self.gaps.items _ p (c.drop_doubles.ensures.kept p at))
