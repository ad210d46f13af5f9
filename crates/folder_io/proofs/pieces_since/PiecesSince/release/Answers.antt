use Rattle.std.proofs.Common.{sym, subst, ◌∙◌}
use Rattle.folder_io.specs.Pieces.{pieces_end}
use Rattle.folder_io.specs.PiecesSince.{IsSince}
use Rattle.folder_io.proofs.SinceLaws.{is_since}
use Rattle.folder_io.proofs.pieces_since.PiecesSince.release.Goals as goal

pub returns : goal.returns
returns g c =
    let b = g.S.Beginning in
    let held = c.release.ensures in
    record {
      value = held.value;
      same_folder = held.same_folder ∙ c.args.self.same_folder;
      since = subst (λ folder. IsSince b.start b.limit (g.F.Folder.state folder) (pieces_end c.args.self.pieces)) (sym held.value) (is_since b.start b.limit _ c.args.self.since);
    }
