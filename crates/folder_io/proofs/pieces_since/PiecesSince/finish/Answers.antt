use Rattle.std.proofs.Common.{◌∙◌}
use Rattle.folder_io.specs.Pieces.{pieces_state}
use Rattle.folder_io.proofs.SinceLaws.{takes_since}
use Rattle.folder_io.proofs.pieces_since.PiecesSince.finish.Goals as goal

pub invariant_of-self-clause-same_folder : goal.invariant_of-self-clause-same_folder
invariant_of-self-clause-same_folder g c = c.finish.ensures.same_folder ∙ c.args.self.now.same_folder

pub invariant_of-self-clause-since : goal.invariant_of-self-clause-since
invariant_of-self-clause-since g c =
    let b = g.S.Beginning in
    takes_since b.start b.limit (pieces_state c.args.self.now.pieces) (pieces_state c.finish.new.self) c.finish.ensures.takes.0 c.finish.ensures.takes.1 c.args.self.now.since
