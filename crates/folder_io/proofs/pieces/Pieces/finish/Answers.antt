use Rattle.std.proofs.Common.{◌≡◌, refl, sym, ◌∙◌, ◌++◌, [], ◌<◌, subst, arith}
use Rattle.folder_io.specs.declared.pieces.PiecesEnd.TheVariants.{Going}
use Rattle.folder_io.specs.Pieces.{pieces_state, pieces_end, given}
use Rattle.folder_io.proofs.PiecesLaws.{takes_none, takes_more, reads_left, reads_fewer}
use Rattle.folder_io.proofs.pieces.Pieces.finish.Goals as goal

pub loop-self-init : goal.loop-self-init
loop-self-init g c = record { some = omega arith; takes = ([], takes_none _); same_folder = refl }

pub loop-self-smaller : goal.loop-self-smaller
loop-self-smaller g c =
    let going : pieces_end c.loop-self.self ≡ Going = sym c.end.ensures ∙ c.in-Going.is in
    let fewer = reads_fewer (pieces_end c.read.new.self) (pieces_state c.loop-self.self).room (pieces_state c.read.new.self).room (λ goes. c.read.ensures.shrinks goes c.loop-self.invariant.some) in
    subst (λ end. reads_left (pieces_end c.read.new.self) (pieces_state c.read.new.self).room < reads_left end (pieces_state c.loop-self.self).room) (sym going) fewer

pub loop-self-preserved : goal.loop-self-preserved
loop-self-preserved g c =
    let before = c.loop-self.invariant in
    let reads = c.read.ensures in
    record {
      some = omega (arith, before.some, c.read.auto.room);
      takes = (before.takes.0 ++ given c.read.result c.read.new.room, takes_more _ _ _ _ _ before.takes.1 reads.takes);
      same_folder = reads.same_folder ∙ before.same_folder;
    }
