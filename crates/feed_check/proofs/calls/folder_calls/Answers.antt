use Rattle.std.proofs.Common.{sym, subst, ◌∷◌, [], arith}
use Rattle.std.specs.Prelude.{IfErr}
use Rattle.std.proofs.lemmas.Result.{IfOk-weaker, IfErr-weaker}
use Rattle.std.proofs.lemmas.Grind.{common_steps}
use Rattle.feed_files.specs.Names.{file_text}
use Rattle.folder_io.specs.CallLogs.{Makes}
use Rattle.folder_io.specs.FolderCalls.{FolderState}
use Rattle.folder_io.specs.FileReading.{ReadsTo, GivesUpOn}
use Rattle.feed_files.specs.declared.names.FileName.TheVariants as file
use Rattle.folder_io.specs.declared.reading.ReadError.TheVariants as error
use Rattle.folder_io.proofs.FilesRead.{gives_up}
use Rattle.feed_check.proofs.HeldCalls.{absent_in, given_in, gives_behind}
use Rattle.feed_check.proofs.calls.folder_calls.Goals as goal

pub returns-in-Failed-clause-err : goal.returns-in-Failed-clause-err
returns-in-Failed-clause-err g c =
    let opens = rw c.text.ensures at c.open.ensures.opens in
    λ start began. gives_up start _ _ 3 file.StopTimes (omega arith) began opens error.ReadFault (c.in-Failed.ensures.counts, c.in-Failed.ensures.failed)

pub returns-in-NoMemory-clause-err : goal.returns-in-NoMemory-clause-err
returns-in-NoMemory-clause-err g c =
    let opens = rw c.text.ensures at c.open.ensures.opens in
    λ start began. gives_up start _ _ 3 file.StopTimes (omega arith) began opens error.NoMemory c.in-NoMemory.ensures.counts

pub returns-in-Absent-clause-calls : goal.returns-in-Absent-clause-calls
returns-in-Absent-clause-calls g c = rw c.whole_fault.ensures (absent_in (g.F.Folder.state c.args.folder.now) _ c.args.ids.now (rw c.text.ensures at c.in-Absent.ensures.finds))

pub returns-clause-calls : goal.returns-clause-calls
returns-clause-calls g c =
    let finds = rw c.text.ensures at c.in-Present.ensures.finds in
    IfOk-weaker c.open_calls-calls.result.0 _ _ (λ calls are. given_in (g.F.Folder.state c.args.folder.now) _ c.args.ids.now calls finds are) c.open_calls-calls.ensures.calls

pub returns-clause-err : goal.returns-clause-err
returns-clause-err g c =
    let before = g.F.Folder.state c.args.folder.now in
    let now = g.F.Folder.state c.open_calls-calls.result.1.now in
    let opens : Makes before.opens (file_text file.StopTimes ∷ []) now.opens = subst (Makes before.opens (file_text file.StopTimes ∷ [])) (sym c.open_calls-calls.ensures.asked.opens) (rw c.text.ensures at c.in-Present.ensures.opens) in
    let gives : IfErr c.open_calls-calls.result.0 (λ why. (start : FolderState) → ReadsTo start 3 before → GivesUpOn why start now) =
    IfErr-weaker c.open_calls-calls.result.0 _ _ (λ why gave start began. gives_up start before now 3 file.StopTimes (omega arith) began opens why (gives_behind why before _ now c.in-Present.ensures.counts gave)) c.open_calls-calls.ensures.err in
    grind (arith, common_steps, gives)
