use Rattle.std.proofs.Common.{refl, sym, arith, ◌==◌, get_or, length}
use Rattle.plain_laws.proofs.Laws.{find_below_hit, find_below_none}
use Rattle.answer_page.proofs.amounts.point_of.Goals as goal

pub returns-then-byte-eq46-clause-value : goal.returns-then-byte-eq46-clause-value
returns-then-byte-eq46-clause-value c =
    sym (find_below_hit (λ place. get_or c.args.text.now place 0 == 46) (length c.args.text.now) c.loop-place.place
    (record { within = c.loop-place-test.true; passes = rw c.if-byte-eq46.true refl; earlier = c.loop-place.invariant }))

pub returns-clause-value : goal.returns-clause-value
returns-clause-value c =
    sym (find_below_none (λ place. get_or c.args.text.now place 0 == 46) (length c.args.text.now)
    (λ k inside. c.loop-place.invariant k (let past = c.loop-place-test.false in omega (arith, past, inside))))
