use Rattle.std.proofs.Common.{◌≤◌, drop, sym, arith, length, length-take, refl}
use Rattle.folder_io.proofs.PiecesLaws.{IsAsked, comes_behind, goes_on, room_left, takes_behind, takes_failed, takes_last}
use Rattle.folder_io.proofs.pieces.PiecesRead.read.Goals as goal

pub returns-in-Got-clause-bytes : goal.returns-in-Got-clause-bytes
returns-in-Got-clause-bytes g c =
    let reads = c.in-Got.ensures in
    let within : c.in-Got.count ≤ length c.read.new.room = omega (arith, reads.fits.1, c.read.auto.room) in
    let fits : c.in-Got.count ≤ c.args.self.now.room = omega (arith, reads.fits.1, length-take c.min-most.result c.args.room.now, c.min-most.ensures) in
    let rest = drop c.min-most.result c.args.room.now in
    (comes_behind c.args.self.now.room c.args.self.now.end _ _ c.read.new.room rest c.in-Got.count (sym c.in-Going.ensures) within fits reads.takes, λ none. absurd (omega (arith, reads.fits.0)))

pub returns-in-Got-clause-takes : goal.returns-in-Got-clause-takes
returns-in-Got-clause-takes g c =
    let reads = c.in-Got.ensures in
    let within : c.in-Got.count ≤ length c.read.new.room = omega (arith, reads.fits.1, c.read.auto.room) in
    let fits : c.in-Got.count ≤ c.args.self.now.room = omega (arith, reads.fits.1, length-take c.min-most.result c.args.room.now, c.min-most.ensures) in
    let rest = drop c.min-most.result c.args.room.now in
    let asked : IsAsked (g.F.Folder.state c.args.self.now.folder.now) (g.F.Folder.state c.read.new.self) = record { source = reads.source; opens = reads.opens; stayed = reads.counts } in
    takes_behind _ c.args.self.now.end _ _ c.read.new.room rest c.in-Got.count refl (sym c.in-Going.ensures) within fits asked reads.readable reads.takes c.after-self.ensures

pub returns-in-End-clause-takes : goal.returns-in-End-clause-takes
returns-in-End-clause-takes g c =
    let reads = c.in-End.ensures in
    let some = room_left c.args.self.now.room c.args.self.now.end (sym c.in-Going.ensures) in
    let asked : IsAsked (g.F.Folder.state c.args.self.now.folder.now) (g.F.Folder.state c.read.new.self) = record { source = reads.source; opens = reads.opens; stayed = reads.counts } in
    takes_last _ _ c.read.new.room (sym c.in-Going.ensures) some asked reads.takes

pub returns-in-Failed-read-clause-takes : goal.returns-in-Failed-read-clause-takes
returns-in-Failed-read-clause-takes g c =
    let reads = c.in-Failed-read.ensures in
    let some = room_left c.args.self.now.room c.args.self.now.end (sym c.in-Going.ensures) in
    takes_failed _ _ c.read.new.room (sym c.in-Going.ensures) some reads.source reads.opens reads.counts reads.failed reads.takes

pub read-requires-clause-is_open : goal.read-requires-clause-is_open
read-requires-clause-is_open g c =
    c.args.self.now.is_open (goes_on c.args.self.now.room c.args.self.now.end (sym c.in-Going.ensures))
