use Rattle.std.proofs.Common.{arith}
use Rattle.feed_trips.proofs.StretchLaws.{anew_later, piece_alone, piece_on}
use Rattle.feed_trips.proofs.together.Together.put_all.Goals as goal
use Rattle.feed_trips.proofs.together.Together.put_all.Goals.{then-not-goes_on+in_ok-put+else-not-branch, else-not-goes_on}

pub put-requires-clause-piece : goal.put-requires-clause-piece
put-requires-clause-piece c = c.loop-place.invariant.piece (anew_later _ _ c.if-not-goes_on.ensures.anew)

pub loop-place-preserved : goal.loop-place-preserved
loop-place-preserved c =
    let before = c.loop-place.invariant in
    elim c.if-not-goes_on.branch [
      | then-not-goes_on+in_ok-put+else-not-branch w ↦ rw (w.self-is, w.from-is, w.stretch-is) (record {
        before = rw w.if-not-branch.false at w.in_ok-put.ensures.put;
        laid = rw w.if-not-branch.false at w.in_ok-put.ensures.beside;
        piece = λ lt. piece_alone _ _ c.loop-place-test.true (λ some. w.if-not-goes_on.ensures.anew);
        start = λ none. absurd (omega arith);
        stretch = rw w.deref.ensures.value at w.stretch_of-stretch.ensures;
      })
      | else-not-goes_on w ↦ rw (w.self-is, w.from-is, w.stretch-is) (record {
        before = before.before;
        laid = before.laid;
        piece = λ lt. piece_on _ _ _ before.piece before.start c.loop-place-test.true w.if-not-goes_on.ensures.on;
        start = λ none. absurd (omega arith);
        stretch = before.stretch;
      })
    ]
