use Rattle.std.proofs.Common.{◌≡◌, true}
use Rattle.folder_io.specs.KeptFiles.{are_whole}
use Rattle.case_files.proofs.feed_texts.put_files.Given as goal

abbrev pub invariant-loop-section : goal.invariant-loop-section
invariant-loop-section l = are_whole l.fn.files ≡ true → are_whole l.files ≡ true
