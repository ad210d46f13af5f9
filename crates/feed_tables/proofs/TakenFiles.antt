-- Files of which some are let go of.
use Rattle.std.proofs.Common.{◌≡◌, ◌∙◌, ℕ, zero, suc, ◌+◌, ◌<◌, List, [], ◌∷◌, length, get_or, ap, sym, subst, ⊎_elim, arith}
use Rattle.std.proofs.lemmas.Bool.{cases_eq}
use Rattle.std.specs.Prelude.{not, ◌≢◌, slice_get, unwrap_or}
use Rattle.feed_files.specs.declared.names.FileName.{FileName}
use Rattle.feed_files.specs.declared.names.FileName.TheVariants as file
use Rattle.feed_files.specs.Names.{place}
use Rattle.feed_faults.specs.FileColumns.{is_always_needed}
use Rattle.feed_faults.specs.FormFaults.{has_record, form_fault, form_fault_of_held}
use Rattle.feed_faults.specs.FeedTables.{table_of}
use Rattle.folder_io.specs.declared.files.FileBytes.{FileBytes}
use Rattle.folder_io.specs.KeptFiles.{file_in, held_of, held_in, IsWithin, AreWithin}
use Rattle.feed_files.specs.HeldFiles.{most_bytes}
use Rattle.feed_tables.specs.RowNumbers.{StandFrom, read_of}
use Rattle.feed_tables.specs.LeftFiles.{AreLeft}

-- a file that is left has the fault that it had, since the file of dates, by which calendar.txt is needed, stands behind it
pub fault_left : (before now : List FileBytes) (name : FileName) → AreLeft before now (place name) → form_fault (held_in now) name ≡ form_fault (held_in before) name
unfolding form_fault
fault_left before now file.Calendar left =
    let own = left file.Calendar (omega arith) in
    let dates = left file.CalendarDates (omega arith) in
    ap (λ (d : FileBytes). form_fault_of_held (not (has_record (held_of d))) file.Calendar (held_in now file.Calendar)) dates
    ∙ ap (λ (d : FileBytes). form_fault_of_held (not (has_record (held_in before file.CalendarDates))) file.Calendar (held_of d)) own
fault_left before now name left = ap (λ (d : FileBytes). form_fault_of_held (is_always_needed name) name (held_of d)) (left name (omega arith))

-- a file of several that follow one another stands at its place
place_of : (names : List FileName) (n i : ℕ) (d : FileName) → StandFrom n names → i < length names → place (get_or names i d) ≡ n + i
place_of [] n i d order lt = absurd (omega arith)
place_of (name ∷ names) n zero d order lt = rw order.0 (omega arith)
place_of (name ∷ names) n (suc i) d order lt = rw (place_of names (suc n) i d order.1 (omega arith)) (omega arith)

module _ (before now : List FileBytes) (names : List FileName) (n i : ℕ) (d : FileName) (order : StandFrom n names) (lt : i < length names) (left : AreLeft before now (n + i)) where
  still : file_in now (get_or names i d) ≡ file_in before (get_or names i d)
  still = left (get_or names i d) (omega (arith, place_of names n i d order lt))

  -- the next file has the fault and the table that it had
  pub next_fault : form_fault (held_in now) (get_or names i d) ≡ form_fault (held_in before) (get_or names i d)
  next_fault = fault_left before now (get_or names i d) (λ name le. left name (omega (arith, place_of names n i d order lt, le)))

  pub next_read : read_of (held_in now) (get_or names i d) ≡ read_of (held_in before) (get_or names i d)
  next_read = ap (λ (f : FileBytes). record { file = get_or names i d; table = table_of (held_of f) }) still

  -- where the next file alone is let go of, those behind it are left
  pub left_next : (later : List FileBytes) → ((other : FileName) → place other ≢ place (get_or names i d) → file_in later other ≡ file_in now other) → AreLeft before later (n + (i + 1))
  left_next later others = λ name le. others name (λ e. absurd (omega (arith, place_of names n i d order lt, e, le))) ∙ left name (omega (arith, le))

-- files of which one is let go of stay within what is read
pub within_without : (before now : List FileBytes) (name : FileName) → AreWithin before → file_in now name ≡ FileBytes.Absent
    → ((other : FileName) → place other ≢ place name → file_in now other ≡ file_in before other) → AreWithin now
within_without before now name within gone others = λ other. ⊎_elim (here other) (λ apart. subst (IsWithin most_bytes) (sym (others other apart)) (within other)) (cases_eq (place other) (place name))
  where
    here : (other : FileName) → place other ≡ place name → IsWithin most_bytes (file_in now other)
    here other same = subst (IsWithin most_bytes) (sym (ap (λ k. unwrap_or (slice_get now k) FileBytes.Absent) same ∙ gone)) tt
