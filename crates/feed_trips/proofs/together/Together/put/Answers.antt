use Rattle.feed_trips.proofs.LaidTimes.{more_laid}
use Rattle.feed_trips.proofs.StretchLaws.{piece_begins, trip_stretched}
use Rattle.trip_order.specs.Order.{no_time}
use Rattle.feed_trips.proofs.together.Together.put.Goals as goal

pub returns-clause-beside : goal.returns-clause-beside
returns-clause-beside c =
    let lt = piece_begins c.requires.piece in
    more_laid c.args.rows.now c.args.from c.args.to _ _ _ _ _
    (trip_stretched _ _ _ _ no_time lt c.requires.within c.requires.before) (c.if-not-put_piece.ensures.set no_time)
    c.requires.laid c.in_ok-lay_piece.ensures
