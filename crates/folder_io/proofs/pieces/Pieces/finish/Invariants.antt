use Rattle.std.proofs.Common.{◌≡◌, ◌<◌, length}
use Rattle.folder_io.specs.Pieces.{pieces_state, pieces_end, folder_name, TakesSome}
use Rattle.folder_io.proofs.PiecesLaws.{reads_left}
use Rattle.folder_io.proofs.pieces.Pieces.finish.Given as goal

abbrev pub invariant-loop-self : goal.invariant-loop-self
invariant-loop-self g l = record {
  some : 0 < length l.room;
  takes : TakesSome (pieces_state l.fn.self) (pieces_state l.self);
  same_folder : folder_name l.self ≡ folder_name l.fn.self;
}

abbrev pub decreases-loop-self : goal.decreases-loop-self
decreases-loop-self g l = reads_left (pieces_end l.self) (pieces_state l.self).room
