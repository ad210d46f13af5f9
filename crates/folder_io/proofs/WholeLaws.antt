-- Files that are all whole, with another whole one in the place of one.
use Rattle.std.proofs.Common.{◌≡◌, ℕ, zero, suc, Bool, true, false, List, [], ◌∷◌, slice_set, refl, arith}
use Rattle.std.proofs.lemmas.Grind.{common_steps}
use Rattle.folder_io.specs.declared.files.FileBytes.{FileBytes}
use Rattle.folder_io.specs.KeptFiles.{is_whole, are_whole}

-- a whole file in the place of another
whole_set : (files : List FileBytes) (i : ℕ) (file : FileBytes) → are_whole files ≡ true → is_whole file ≡ true → are_whole (slice_set files i file) ≡ true
whole_set [] i file whole is = refl
whole_set (f ∷ files) zero file whole is = grind (arith, common_steps)
whole_set (f ∷ files) (suc i) file whole is = step (is_whole f) refl (whole_set files i file)
  where
    step : (b : Bool) → is_whole f ≡ b → (are_whole files ≡ true → is_whole file ≡ true → are_whole (slice_set files i file) ≡ true) → are_whole (slice_set (f ∷ files) (suc i) file) ≡ true
    step true e rest = rw e (rest (let all : are_whole (f ∷ files) ≡ true = whole in rw e at all) is)
    step false e rest = absurd (let all : are_whole (f ∷ files) ≡ true = whole in let no : false ≡ true = rw e at all in cc)

pub whole_put : (files new : List FileBytes) (i : ℕ) (file : FileBytes) → new ≡ slice_set files i file → are_whole files ≡ true → is_whole file ≡ true → are_whole new ≡ true
whole_put files new i file e whole is = rw e (whole_set files i file whole is)
