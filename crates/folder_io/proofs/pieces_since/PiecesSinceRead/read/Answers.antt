use Rattle.std.proofs.Common.{◌∙◌}
use Rattle.folder_io.proofs.SinceLaws.{takes_since}
use Rattle.folder_io.proofs.pieces_since.PiecesSinceRead.read.Goals as goal

pub invariant_of-self-clause-same_folder : goal.invariant_of-self-clause-same_folder
invariant_of-self-clause-same_folder g c = c.read.ensures.same_folder ∙ c.args.self.now.same_folder

pub invariant_of-self-clause-since : goal.invariant_of-self-clause-since
invariant_of-self-clause-since g c = takes_since _ _ _ _ _ c.read.ensures.takes c.args.self.now.since
