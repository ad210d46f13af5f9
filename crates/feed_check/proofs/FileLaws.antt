-- The first fault of files that are read one after another.
use Rattle.std.proofs.Common.{◌≡◌, refl, sym, ap, ◌∙◌, subst, ℕ, zero, suc, List, [], ◌∷◌, ◌++◌, length, true, Option, Some, None, arith}
use Rattle.std.specs.Prelude.{◌≢◌, map}
use Rattle.std.specs.Option.{option_or}
use Rattle.plain_laws.specs.Plain.{first_below, first_in}
use Rattle.plain_laws.proofs.Laws.{at_item, option_or-assoc}
use Rattle.feed_files.specs.HeldFiles.{HeldFile}
use Rattle.feed_files.specs.Names.{place}
use Rattle.feed_files.specs.declared.names.FileName.{FileName}
use Rattle.feed_files.specs.declared.names.FileName.TheVariants as file
use Rattle.feed_faults.specs.FeedTables.{table_of, tables_of}
use Rattle.feed_faults.specs.FormFaults.{form_fault, form_fault_of_held, first_form_fault}
use Rattle.folder_io.specs.declared.files.FileBytes.{FileBytes}
use Rattle.folder_io.specs.KeptFiles.{file_in, held_of, held_in}
use Rattle.feed_tables.specs.LeftFiles.{AreLeft}
use Rattle.feed_tables.specs.RowNumbers.{read_of, first_files, other_files, StandFrom}
use Rattle.feed_tables.specs.KeptTables.{tables_with}
use Rattle.feed_tables.proofs.TakenFiles.{fault_left}
use Rattle.feed_text.specs.declared.errors.TextError.{TextError}
use Rattle.feed_text.specs.TextErrors.{IsErrorOf}
use Rattle.feed_tables.proofs.PassLaws.{error_first, error_later}
use Rattle.feed_faults.specs.FirstFault.{first_fault, first_relation_fault}

-- the first of several, and then the others
or_turn : {X : Type 0} (o : Option X) → option_or None o ≡ option_or o None
or_turn None = refl
or_turn (Some x) = refl

shifted : {X : Type 0} (f : ℕ → Option X) (n : ℕ) → first_below (suc n) f ≡ option_or (f 0) (first_below n (λ k. f (suc k)))
shifted f zero = or_turn (f 0)
shifted f (suc n) = rw (shifted f n) (option_or-assoc (f 0) (first_below n (λ k. f (suc k))) (f (suc n)))

first_of_more : {X Y : Type 0} (x : Y) (xs : List Y) (f : Y → Option X) → first_in (x ∷ xs) f ≡ option_or (f x) (first_in xs f)
first_of_more x xs f = shifted (at_item (x ∷ xs) f) (length xs)

first_of_both : {X Y : Type 0} (xs ys : List Y) (f : Y → Option X) → first_in (xs ++ ys) f ≡ option_or (first_in xs f) (first_in ys f)
first_of_both [] ys f = refl
first_of_both (x ∷ xs) ys f =
    first_of_more x (xs ++ ys) f ∙ ap (option_or (f x)) (first_of_both xs ys f)
    ∙ sym (option_or-assoc (f x) (first_in xs f) (first_in ys f)) ∙ ap (λ o. option_or o (first_in ys f)) (sym (first_of_more x xs f))

-- the first fault of all files: of those before stop_times.txt, of it, and of those behind it
pub in_three : (files : FileName → HeldFile) → first_form_fault files
    ≡ option_or (first_in first_files (form_fault files)) (option_or (form_fault files file.StopTimes) (first_in other_files (form_fault files)))
unfolding first_form_fault
in_three files = first_of_both first_files (file.StopTimes ∷ other_files) (form_fault files) ∙ ap (option_or (first_in first_files (form_fault files))) (first_of_more file.StopTimes other_files (form_fault files))

-- files that are left have the faults and the tables that they had
module _ (before now : List FileBytes) where
  faults_left : (names : List FileName) (n : ℕ) → StandFrom n names → AreLeft before now n → first_in names (form_fault (held_in now)) ≡ first_in names (form_fault (held_in before))
  faults_left [] n stand left = refl
  faults_left (name ∷ names) n stand left =
      let own = fault_left before now name (λ other le. left other (omega (arith, stand.0, le))) in
      let later = faults_left names (suc n) stand.1 (λ other le. left other (omega (arith, le))) in
      first_of_more name names (form_fault (held_in now)) ∙ rw (own, later) (sym (first_of_more name names (form_fault (held_in before))))

  tables_left : (names : List FileName) (n : ℕ) → StandFrom n names → AreLeft before now n → map (read_of (held_in now)) names ≡ map (read_of (held_in before)) names
  tables_left [] n stand left = refl
  tables_left (name ∷ names) n stand left =
      let own : read_of (held_in now) name ≡ read_of (held_in before) name = ap (λ (d : FileBytes). record { file = name; table = table_of (held_of d) }) (left name (omega (arith, stand.0))) in
      rw (own, tables_left names (suc n) stand.1 (λ other le. left other (omega (arith, le)))) refl

  pub others_stand : StandFrom 4 other_files
  others_stand = (refl, (refl, (refl, (refl, (refl, (refl, (refl, (refl, (refl, (refl, (refl, (refl, (refl, (refl, (refl, tt)))))))))))))))

  pub other_faults_left : AreLeft before now 4 → first_in other_files (form_fault (held_in now)) ≡ first_in other_files (form_fault (held_in before))
  other_faults_left left = faults_left other_files 4 others_stand left

  pub other_tables_left : AreLeft before now 4 → map (read_of (held_in now)) other_files ≡ map (read_of (held_in before)) other_files
  other_tables_left left = tables_left other_files 4 others_stand left

pub first_stand : StandFrom 0 first_files
first_stand = (refl, (refl, (refl, tt)))

-- the tables that are kept, with that of stop_times.txt, are those of all files
pub tables_are : (files : FileName → HeldFile) → tables_with (map (read_of files) first_files) (table_of (files file.StopTimes)) (map (read_of files) other_files) ≡ tables_of files
unfolding tables_of
tables_are files = refl

-- the first fault of a feed, by where it is found
module _ (files : FileName → HeldFile) where
  form_error : (e : TextError) → IsErrorOf (first_form_fault files) e → IsErrorOf (first_fault files) e
  unfolding first_fault
  form_error e is = error_first (first_form_fault files) (option_or (first_relation_fault (tables_of files)) None) e is

  pub first_error : (e : TextError) → IsErrorOf (first_in first_files (form_fault files)) e → IsErrorOf (first_fault files) e
  first_error e is = form_error e (subst (λ o. IsErrorOf o e) (sym (in_three files)) (error_first (first_in first_files (form_fault files)) _ e is))

  pub calls_error : first_in first_files (form_fault files) ≡ None → (e : TextError) → IsErrorOf (form_fault_of_held true file.StopTimes (files file.StopTimes)) e → IsErrorOf (first_fault files) e
  unfolding form_fault
  calls_error none e is =
      form_error e (subst (λ o. IsErrorOf o e) (sym (in_three files))
      (error_later (first_in first_files (form_fault files)) _ e none (error_first (form_fault files file.StopTimes) (first_in other_files (form_fault files)) e is)))

  pub others_error : first_in first_files (form_fault files) ≡ None → form_fault_of_held true file.StopTimes (files file.StopTimes) ≡ None
      → (e : TextError) → IsErrorOf (first_in other_files (form_fault files)) e → IsErrorOf (first_fault files) e
  unfolding form_fault
  others_error none calls e is =
      form_error e (subst (λ o. IsErrorOf o e) (sym (in_three files))
      (error_later (first_in first_files (form_fault files)) _ e none (error_later (form_fault files file.StopTimes) (first_in other_files (form_fault files)) e calls is)))

  pub no_form_fault : first_in first_files (form_fault files) ≡ None → form_fault_of_held true file.StopTimes (files file.StopTimes) ≡ None
      → first_in other_files (form_fault files) ≡ None → first_form_fault files ≡ None
  unfolding form_fault
  no_form_fault none calls others = in_three files ∙ rw (none, calls, others) refl

  pub related_error : first_form_fault files ≡ None → (e : TextError) → IsErrorOf (first_relation_fault (tables_of files)) e → IsErrorOf (first_fault files) e
  unfolding first_fault
  related_error none e is = error_later (first_form_fault files) _ e none (error_first (first_relation_fault (tables_of files)) None e is)

  pub related_sound : first_form_fault files ≡ None → first_relation_fault (tables_of files) ≡ None → first_fault files ≡ None
  unfolding first_fault
  related_sound none related = rw (none, related) refl

-- what the files are after those before stop_times.txt were let go of, and stop_times.txt itself
module _ (files mid now : List FileBytes) (left : AreLeft files mid 3) (others : (other : FileName) → place other ≢ 3 → file_in now other ≡ file_in mid other) where
  pub calls_held : held_in mid file.StopTimes ≡ held_in files file.StopTimes
  calls_held = ap held_of (left file.StopTimes (omega arith))

  pub others_held : AreLeft files now 4
  others_held = λ name le. others name (λ e. absurd (omega (arith, le, e))) ∙ left name (omega (arith, le))
