-- Files of which those before stop_times.txt, that file and those behind it are read apart.
use mathlib.Core.Path.{fun_ext}
use Rattle.std.proofs.Common.{◌≡◌, refl, sym, ap, ◌∙◌, ◌<◌, ◌≤◌, get_or, Bool, true, false, nat_lt, Option, Some, None, arith}
use Rattle.std.specs.Prelude.{◌==◌, if◌then◌else◌, map, IfSome}
use Rattle.std.proofs.lemmas.Bool.Decides.{nat_tests}
use Rattle.plain_laws.specs.Plain.{first_in}
use Rattle.feed_files.specs.HeldFiles.{HeldFile, held}
use Rattle.feed_files.specs.Names.{all_files, place}
use Rattle.feed_files.specs.declared.names.FileName.{FileName}
use Rattle.feed_files.specs.declared.names.FileName.TheVariants as file
use Rattle.feed_faults.specs.FormFaults.{form_fault}
use Rattle.folder_io.specs.FolderCalls.{Contents}
use Rattle.folder_io.proofs.PlaceLaws.{named}
use Rattle.feed_tables.specs.RowNumbers.{read_of, first_files, other_files}

abbrev pub joined : (FileName → HeldFile) → HeldFile → (FileName → HeldFile) → FileName → HeldFile
joined first calls others name = if nat_lt (place name) 3 then first name else (if place name == 3 then calls else others name)

module _ (first : FileName → HeldFile) (calls : HeldFile) (others : FileName → HeldFile) where
  pub first_joined : map (read_of (joined first calls others)) first_files ≡ map (read_of first) first_files
  first_joined = refl

  pub first_faults : first_in first_files (form_fault (joined first calls others)) ≡ first_in first_files (form_fault first)
  unfolding form_fault
  first_faults = refl

  pub others_joined : map (read_of (joined first calls others)) other_files ≡ map (read_of others) other_files
  others_joined = refl

  pub others_faults : first_in other_files (form_fault (joined first calls others)) ≡ first_in other_files (form_fault others)
  unfolding form_fault
  others_faults = refl

  is_stop_times : (name : FileName) → place name ≡ 3 → name ≡ file.StopTimes
  is_stop_times name e = sym (named name file.Stops) ∙ ap (λ k. get_or all_files k file.Stops) e

  given_at : (contents : Contents) → ((name : FileName) → place name < 3 → first name ≡ held contents name) → calls ≡ held contents file.StopTimes
      → ((name : FileName) → 4 ≤ place name → others name ≡ held contents name) → (name : FileName) → joined first calls others name ≡ held contents name
  given_at contents before at behind name = by (nat_lt (place name) 3) refl (place name == 3) refl
    where
      by : (low : Bool) → nat_lt (place name) 3 ≡ low → (same : Bool) → (place name == 3) ≡ same → joined first calls others name ≡ held contents name
      by true low same is = rw low (before name (grind (arith, nat_tests, low)))
      by false high true is = rw (high, is) (at ∙ ap (held contents) (sym (is_stop_times name (grind (arith, nat_tests, is)))))
      by false high false is = rw (high, is) (behind name (grind (arith, nat_tests, high, is)))

  pub gives : (holds : Option Contents) → ((name : FileName) → place name < 3 → IfSome holds (λ contents. first name ≡ held contents name)) → IfSome holds (λ contents. calls ≡ held contents file.StopTimes)
      → ((name : FileName) → 4 ≤ place name → IfSome holds (λ contents. others name ≡ held contents name)) → IfSome holds (λ contents. joined first calls others ≡ held contents)
  gives None before at behind = tt
  gives (Some contents) before at behind = fun_ext (given_at contents before at behind)
