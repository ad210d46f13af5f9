use Rattle.folder_io.proofs.SinceLaws.{text_since}
use Rattle.folder_io.proofs.pieces_since.PiecesSince.is_text.Goals as goal

pub returns : goal.returns
returns g c =
    let b = g.S.Beginning in
    let tells = c.is_text.ensures b.start b.limit in
    record {
      taken = tells;
      ended = text_since b.start b.limit _ c.is_text.result c.args.self.now.since tells;
    }
