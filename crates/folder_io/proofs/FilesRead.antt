-- Files that are read piece by piece, and one by one.
use Rattle.std.proofs.Common.{◌≡◌, ◌≢◌, ◌⊎◌, inl, inr, ap, sym, subst, ℕ, List, [], ◌∷◌, ◌++◌, Option, Some, None, refl, ◌∙◌, map, slice_set, get_or, arith, true, false, length, take, drop, ◌+◌, ◌<◌, ◌≤◌, append_assoc, length-append, length-take, append-nil, nat_lt, Bool}
use Rattle.std.specs.Prelude.{option_map, IfSome, IfErr, IsErrAnd, Result, Ok, Err}
use Rattle.std.proofs.lemmas.List.{take-append-le, take-append-drop, take-map, map_more, length-set, get_or-set_same, get_or-set_other}
use Rattle.std.proofs.lemmas.Option.{unwrap_or-slice_get}
use Rattle.std.proofs.Math.Seq.{drop-append_seam}
use Rattle.std.proofs.lemmas.Bool.Decides.{nat_tests}
use Rattle.folder_io.specs.declared.folder.Opened.TheVariants as opened
use Rattle.folder_io.specs.declared.folder.Piece.TheVariants as piece
use Rattle.feed_files.specs.declared.names.FileName.{FileName}
use Rattle.feed_files.specs.declared.names.FileName.TheVariants as file
use Rattle.feed_files.specs.Names.{file_text}
use Rattle.feed_files.specs.HeldFiles.{HeldFile, held_within, held, most_bytes}
use Rattle.folder_io.specs.declared.files.FileBytes.{FileBytes}
use Rattle.folder_io.specs.declared.files.FileBytes.TheVariants as kept
use Rattle.folder_io.specs.CallLogs.{Makes}
use Rattle.feed_files.specs.Names.{all_files}
use Rattle.folder_io.specs.FilePlaces.{place}
use Rattle.folder_io.specs.FolderCalls.{Contents, FolderState, Finds, Takes}
use Rattle.folder_io.specs.KeptFiles.{held_of, held_in, file_in, IsWithin}
use Rattle.folder_io.specs.FileReading.{IsRead, StopsPast, ReadsTo, GivesUp, GivesUpOn, AreReadBetween, file_names}
use Rattle.folder_io.specs.declared.reading.ReadError.{ReadError}
use Rattle.folder_io.specs.declared.reading.ReadError.TheVariants as error
use Rattle.feed_files.specs.FaultCounts.{Rose, Stayed}
use Rattle.folder_io.proofs.LogLaws.{makes_more}
use Rattle.folder_io.proofs.PlaceLaws.{named}

-- the bytes so far and what is left are the file
abbrev pub IsWhole : Option (List ℕ) → Option (List ℕ) → List ℕ → Type 0
IsWhole (Some all) (Some rest) bytes = all ≡ bytes ++ rest
IsWhole (Some all) None bytes = ⊥
IsWhole None left bytes = ⊥

-- the same of the file under a name, where it is told
abbrev pub IsSoFar : Option Contents → List ℕ → Option (List ℕ) → List ℕ → Type 0
IsSoFar holds name left bytes = IfSome holds (λ contents. IsWhole (contents name) left bytes)

-- what was read of it, and what is left, where it is told
abbrev pub AreRead : Option Contents → List ℕ → ℕ → Option (List ℕ) → FileBytes → Type 0
AreRead holds name limit left bytes = IfSome holds (λ contents. IsRead contents name limit bytes) × IfSome holds (λ contents. StopsPast contents name limit left bytes)

-- a piece behind the bytes so far
pub piece_put : (bytes more room rest : List ℕ) (n : ℕ) → more ≡ bytes ++ take n (room ++ rest) → n ≤ length room → (more ≡ bytes ++ take n room) × (length more ≡ length bytes + n)
piece_put bytes more room rest n e le =
    let put : more ≡ bytes ++ take n room = e ∙ ap (λ piece. bytes ++ piece) (take-append-le n room rest le) in
    (put, omega (arith, ap length put, length-append bytes (take n room), length-take n room, le))

-- nothing is read of a file that was opened
opened_whole : (under left : Option (List ℕ)) → Finds under left opened.Present → IsWhole under left []
opened_whole None left finds = absurd finds
opened_whole (Some all) left finds = rw finds refl

pub opened_so_far : (holds : Option Contents) (name bytes : List ℕ) (left : Option (List ℕ)) → IfSome holds (λ held. Finds (held name) left opened.Present) → bytes ≡ [] → IsSoFar holds name left bytes
opened_so_far None name bytes left finds none = tt
opened_so_far (Some folder) name bytes left finds none = rw none (opened_whole (folder name) left finds)

-- one piece more
more_whole : (under left later : Option (List ℕ)) (bytes more room : List ℕ) (n : ℕ) → IsWhole under left bytes → IfSome left (λ rest. Takes rest later room (piece.Got n)) → more ≡ bytes ++ take n room → IsWhole under later more
more_whole None left later bytes more room n so_far takes put = absurd so_far
more_whole (Some all) None later bytes more room n so_far takes put = absurd so_far
more_whole (Some all) (Some rest) later bytes more room n so_far takes put =
    rw (takes.2, put, takes.1, append_assoc, take-append-drop n rest) so_far

pub more_so_far : (holds : Option Contents) (name bytes more room : List ℕ) (left later : Option (List ℕ)) (n : ℕ) → IsSoFar holds name left bytes → IfSome left (λ rest. Takes rest later room (piece.Got n)) → more ≡ bytes ++ take n room → IsSoFar holds name later more
more_so_far None name bytes more room left later n so_far takes put = tt
more_so_far (Some folder) name bytes more room left later n so_far takes put = more_whole (folder name) left later bytes more room n so_far takes put

-- a file that isn't there
absent_held : (under left : Option (List ℕ)) (limit : ℕ) → Finds under left opened.Absent → HeldFile.Missing ≡ held_within limit under
absent_held None left limit finds = refl
absent_held (Some all) left limit finds = absurd finds

pub absent_read : (holds : Option Contents) (name : List ℕ) (left : Option (List ℕ)) (limit : ℕ) → IfSome holds (λ held. Finds (held name) left opened.Absent) → AreRead holds name limit left kept.Absent
absent_read None name left limit finds = (tt, tt)
absent_read (Some folder) name left limit finds = (absent_held (folder name) left limit finds, tt)

-- a file that is read to its end
end_held : (under left later : Option (List ℕ)) (bytes room : List ℕ) (limit : ℕ) → IsWhole under left bytes → IfSome left (λ rest. Takes rest later room piece.End) → length bytes ≤ limit → HeldFile.Bytes bytes ≡ held_within limit under
end_held None left later bytes room limit so_far takes le = absurd so_far
end_held (Some all) None later bytes room limit so_far takes le = absurd so_far
end_held (Some all) (Some rest) later bytes room limit so_far takes le =
    let same : all ≡ bytes = (rw takes.0 at so_far) ∙ append-nil bytes in
    let fits : nat_lt limit (length bytes) ≡ false = grind (arith, nat_tests, le) in
    rw (same, fits) refl

pub end_read : (holds : Option Contents) (name bytes room : List ℕ) (left later : Option (List ℕ)) (limit : ℕ) → IsSoFar holds name left bytes → IfSome left (λ rest. Takes rest later room piece.End) → length bytes ≤ limit
    → AreRead holds name limit later (kept.Bytes bytes)
end_read None name bytes room left later limit so_far takes le = (tt, tt)
end_read (Some folder) name bytes room left later limit so_far takes le = (end_held (folder name) left later bytes room limit so_far takes le, tt)

-- a file that is too large, of which so many bytes and one were read
large_held : (under left : Option (List ℕ)) (bytes : List ℕ) (limit : ℕ) → IsWhole under left bytes → limit + 1 ≡ length bytes → (HeldFile.TooLarge ≡ held_within limit under) × (left ≡ option_map (drop (limit + 1)) under)
large_held None left bytes limit so_far size = absurd so_far
large_held (Some all) None bytes limit so_far size = absurd so_far
large_held (Some all) (Some rest) bytes limit so_far size =
    let long : nat_lt limit (length all) ≡ true = grind (arith, nat_tests, ap length so_far, length-append bytes rest, size) in
    (rw long refl, rw (size, so_far, drop-append_seam bytes rest) refl)

pub large_read : (holds : Option Contents) (name bytes : List ℕ) (left : Option (List ℕ)) (limit : ℕ) → IsSoFar holds name left bytes → limit + 1 ≡ length bytes → AreRead holds name limit left kept.TooLarge
large_read None name bytes left limit so_far size = (tt, tt)
large_read (Some folder) name bytes left limit so_far size = large_held (folder name) left bytes limit so_far size

-- what was read of the file at a place
pub record IsReadAt (holds : Option Contents) (k : ℕ) (bytes : FileBytes) : Type 0 where
  pub within : IsWithin most_bytes bytes
  pub given : IfSome holds (λ contents. IsRead contents (file_text (get_or all_files k file.Stops)) most_bytes bytes)

-- the files from one place and up to another were read, and the others are as they were
pub record AreReadSoFar (holds : Option Contents) (from to : ℕ) (before now : List FileBytes) : Type 0 where
  pub size : length now ≡ length before
  pub read : (k : ℕ) → from ≤ k → k < to → IsReadAt holds k (get_or now k kept.Absent)
  pub others : (k : ℕ) → (k < from) ⊎ (to ≤ k) → get_or now k kept.Absent ≡ get_or before k kept.Absent

pub none_read : (holds : Option Contents) (from : ℕ) (files : List FileBytes) → AreReadSoFar holds from from files files
none_read holds from files = record { size = refl; read = λ k low high. absurd (omega (arith, low, high)); others = λ k apart. refl }

below_or_at : (k i : ℕ) → k < i + 1 → (k < i) ⊎ (k ≡ i)
below_or_at k i lt = by (nat_lt k i) refl
  where
    by : (b : Bool) → nat_lt k i ≡ b → (k < i) ⊎ (k ≡ i)
    by true less = inl (grind (arith, nat_tests))
    by false more = inr (grind (arith, nat_tests, lt))

-- one file more
module _ (holds : Option Contents) (from i : ℕ) (before files : List FileBytes) (bytes : FileBytes) (so_far : AreReadSoFar holds from i before files) (order : from ≤ i) (inside : i < length files) (read : IsReadAt holds i bytes) where
  put_there : get_or (slice_set files i bytes) i kept.Absent ≡ bytes
  put_there = get_or-set_same files i bytes kept.Absent inside

  kept_there : (k : ℕ) → k ≢ i → get_or (slice_set files i bytes) k kept.Absent ≡ get_or files k kept.Absent
  kept_there k apart = get_or-set_other files i k bytes kept.Absent apart

  read_at : (k : ℕ) → from ≤ k → (k < i) ⊎ (k ≡ i) → IsReadAt holds k (get_or (slice_set files i bytes) k kept.Absent)
  read_at k low (inl less) = rw (kept_there k (λ e. absurd (omega (arith, e, less)))) (so_far.read k low less)
  read_at k low (inr same) = rw (same, put_there) read

  other_at : (k : ℕ) → (k < from) ⊎ (i + 1 ≤ k) → get_or (slice_set files i bytes) k kept.Absent ≡ get_or before k kept.Absent
  other_at k (inl low) = kept_there k (λ e. absurd (omega (arith, e, low, order))) ∙ so_far.others k (inl low)
  other_at k (inr high) = kept_there k (λ e. absurd (omega (arith, e, high))) ∙ so_far.others k (inr (omega (arith, high)))

  pub more_read : AreReadSoFar holds from (i + 1) before (slice_set files i bytes)
  more_read = record {
    size = length-set files i bytes ∙ so_far.size;
    read = λ k low high. read_at k low (below_or_at k i high);
    others = other_at;
  }

-- all files that were to be read
module _ (folder : FolderState) (from to : ℕ) (before now : List FileBytes) (so_far : AreReadSoFar folder.source.contents from to before now) where
  at_place : (files : List FileBytes) (name : FileName) → get_or files (place name) kept.Absent ≡ file_in files name
  at_place files name = sym (unwrap_or-slice_get files (place name) kept.Absent)

  given_at : (holds : Option Contents) (name : FileName) → IsReadAt holds (place name) (get_or now (place name) kept.Absent) → IfSome holds (λ contents. held_in now name ≡ held contents name)
  unfolding held
  given_at None name read = tt
  given_at (Some contents) name read =
      let is = read.given in
      ap held_of (sym (at_place now name)) ∙ is ∙ ap (λ (n : FileName). held_within most_bytes (contents (file_text n))) (named name file.Stops)

  pub all_read : AreReadBetween folder from to before now
  all_read = record {
    within = λ name low high. rw (at_place now name) at (so_far.read (place name) low high).within;
    given = λ name low high. given_at folder.source.contents name (so_far.read (place name) low high);
    others = λ name apart. sym (at_place now name) ∙ so_far.others (place name) apart ∙ at_place before name;
  }

risen : (start before now : ℕ) → Stayed start before → Rose before now → Rose start now
risen start before now same (inl less) = inl (omega (arith, same, less))
risen start before now same (inr last) = inr last

-- one file more is opened
names_more : {X Y : Type 0} (f : X → Y) (xs : List X) (i : ℕ) (d : X) → i < length xs → take i (map f xs) ++ f (get_or xs i d) ∷ [] ≡ take (i + 1) (map f xs)
names_more f xs i d lt = ap (λ ys. ys ++ f (get_or xs i d) ∷ []) (take-map f i xs) ∙ sym (take-map f (i + 1) xs ∙ map_more f xs i d lt)

module _ (start before now : FolderState) (i : ℕ) (d : FileName) (named : i < length all_files) (so_far : ReadsTo start i before) (one : Makes before.opens (file_text (get_or all_files i d) ∷ []) now.opens) where
  more_opens : Makes start.opens (take (i + 1) file_names) now.opens
  more_opens = subst (λ names. Makes start.opens names now.opens) (names_more file_text all_files i d named) (makes_more so_far.opens one)

  pub more_opened : Stayed before.faults now.faults → ReadsTo start (i + 1) now
  more_opened stayed = record { counts = stayed ∙ so_far.counts; opens = more_opens }

  -- a file whose read gave up was opened too
  pub gives_up : (error : ReadError) → GivesUp error before now → GivesUpOn error start now
  gives_up error.ReadFault why = record { why = (risen start.faults before.faults now.faults so_far.counts why.0, why.1); opens = (i + 1, more_opens) }
  gives_up error.NoMemory why = record { why = why ∙ so_far.counts; opens = (i + 1, more_opens) }

-- what holds of an error that is passed on
pub passed_on : {T E : Type 0} (P : E → Type 0) (result : Result T E) (error : E) → IsErrAnd result (λ passed. passed ≡ error) → P error → IfErr result P
passed_on P (Ok value) error is holds = tt
passed_on P (Err passed) error is holds = subst P (sym is) holds
