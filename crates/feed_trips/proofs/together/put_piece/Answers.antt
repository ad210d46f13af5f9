use Rattle.std.proofs.Common.{refl}
use Rattle.trip_order.specs.Order.{no_time}
use Rattle.feed_trips.proofs.StretchLaws.{trip_stretched, piece_begins, piece_first, lies_apart}
use Rattle.feed_trips.proofs.together.put_piece.Goals as goal

pub bounds-rows-from : goal.bounds-rows-from
bounds-rows-from c = piece_begins c.requires.piece

pub index_mut-requires : goal.index_mut-requires
index_mut-requires c =
    let stretched =
    trip_stretched _ _ _ _ _ (piece_begins c.requires.piece) c.requires.within c.requires.before in
    rw c.args.stretches.now.ok.0 stretched

pub returns-then-stretch-clause-apart : goal.returns-then-stretch-clause-apart
returns-then-stretch-clause-apart c =
    lies_apart c.args.rows.now c.args.from c.args.to c.args.trips c.args.stretches.now.items _ c.args.stretch
    c.requires.piece c.requires.within c.requires.before (c.requires.stretch no_time) c.if-stretch.true

pub returns-clause-put : goal.returns-clause-put
returns-clause-put c =
    let own = c.requires.within c.args.from _ (piece_begins c.requires.piece) in
    piece_first c.args.rows.now c.args.from c.args.to _ c.requires.piece c.args.trips _ c.args.stretches.now.items c.args.stretch
    refl own c.requires.before (c.requires.stretch _) c.if-stretch.false
