use Rattle.std.proofs.Common.{◌∙◌, sym, ap, ◌≤◌, ◌++◌, ◌∷◌, [], take, map, length}
use Rattle.feed_build.proofs.NumberLaws.{name_at, name_taken}
use Rattle.feed_build.proofs.names.Numbering.ids.Goals as goal

pub copy_of-requires-clause-some : goal.copy_of-requires-clause-some
copy_of-requires-clause-some c =
    let lt = c.loop-place-test.true in
    name_at (λ name. 1 ≤ length name) c.as_slice-names.result.now (rw c.as_slice-names.ensures.keys c.self.invariant.filled) c.loop-place.place _ lt

pub copy_of-requires-clause-short : goal.copy_of-requires-clause-short
copy_of-requires-clause-short c =
    let lt = c.loop-place-test.true in
    name_at (λ name. length name ≤ 255) c.as_slice-names.result.now (rw c.as_slice-names.ensures.keys c.self.invariant.short) c.loop-place.place _ lt

pub loop-place-preserved : goal.loop-place-preserved
loop-place-preserved c =
    let lt = c.loop-place-test.true in
    let names = c.as_slice-names.result.now in
    c.in_ok-push.ensures.ok
    ∙ ap (λ ids. ids ++ c.in_ok-copy_of.field-0 ∷ []) c.loop-place.invariant
    ∙ ap (λ id. take c.loop-place.place (map (λ k. k.now) names) ++ id ∷ []) c.in_ok-copy_of.ensures
    ∙ sym (name_taken names c.loop-place.place _ lt)
