-- What is so of a folder that tells what it holds, call by call.
use Rattle.std.proofs.Common.{◌≡◌, refl, ◌∙◌, ap, ℕ, List, Option, Some, None}
use Rattle.std.specs.Prelude.{IfSome}
use Rattle.feed_files.specs.HeldFiles.{HeldFile, held, most_bytes}
use Rattle.feed_files.specs.Names.{file_text}
use Rattle.feed_files.specs.declared.names.FileName.{FileName}
use Rattle.feed_files.specs.declared.names.FileName.TheVariants as file
use Rattle.folder_io.specs.FileReading.{IsRead}
use Rattle.folder_io.specs.FolderCalls.{Contents, FolderState, WhereTold}
use Rattle.folder_io.specs.KeptFiles.{held_of}
use Rattle.folder_io.specs.declared.files.FileBytes.{FileBytes}
use Rattle.answer_page.specs.Names.{NamePairs}
use Rattle.answer_page.specs.LineNames.{held_names, held_lines, names_of_files}
use Rattle.answer_page.specs.declared.names.LineNames.{LineNames}

-- what follows from what is held is so too
pub told_then : (folder : FolderState) (P Q : Contents → Type 0) → WhereTold folder P → ((contents : Contents) → P contents → Q contents) → WhereTold folder Q
told_then folder P Q p then = by folder.source.contents p
  where
    by : (o : Option Contents) → IfSome o P → IfSome o Q
    by None p = tt
    by (Some contents) p = then contents p

-- and so of two facts, of which the second was told later by the same source
pub told_both : (first second : FolderState) (P Q R : Contents → Type 0) → second.source ≡ first.source → WhereTold first P → WhereTold second Q
    → ((contents : Contents) → P contents → Q contents → R contents) → WhereTold first R
told_both first second P Q R same p q both = by first.source.contents p (rw same at q)
  where
    by : (o : Option Contents) → IfSome o P → IfSome o Q → IfSome o R
    by None p q = tt
    by (Some contents) p q = both contents p q

-- a file that was read is the one that is held
pub was_held : (folder : FolderState) (file : FileName) (bytes : FileBytes) → WhereTold folder (λ contents. IsRead contents (file_text file) most_bytes bytes)
    → WhereTold folder (λ contents. held_of bytes ≡ held contents file)
unfolding held
was_held folder file bytes read = read

-- what it names
pub list_told : (folder : FolderState) (file : FileName) (bytes : FileBytes) (id name : List ℕ) (list : NamePairs)
    → WhereTold folder (λ contents. IsRead contents (file_text file) most_bytes bytes) → list ≡ held_names (held_of bytes) id name
    → WhereTold folder (λ contents. list ≡ held_names (held contents file) id name)
list_told folder file bytes id name list read is =
    told_then folder (λ contents. held_of bytes ≡ held contents file) (λ contents. list ≡ held_names (held contents file) id name) (was_held folder file bytes read)
    (λ contents same. is ∙ ap (λ h. held_names h id name) same)

pub lines_told : (folder : FolderState) (bytes : FileBytes) (lines : LineNames)
    → WhereTold folder (λ contents. IsRead contents (file_text file.Routes) most_bytes bytes) → lines ≡ held_lines (held_of bytes)
    → WhereTold folder (λ contents. lines ≡ held_lines (held contents file.Routes))
lines_told folder bytes lines read is =
    told_then folder (λ contents. held_of bytes ≡ held contents file.Routes) (λ contents. lines ≡ held_lines (held contents file.Routes)) (was_held folder file.Routes bytes read)
    (λ contents same. is ∙ ap held_lines same)

-- what the routes are called, put together
pub lines_are : (routes : HeldFile) (short long colours : NamePairs) → short ≡ (held_lines routes).short → long ≡ (held_lines routes).long
    → colours ≡ (held_lines routes).colours → record { short = short; long = long; colours = colours } ≡ held_lines routes
lines_are routes short long colours s l c = rw (s, l, c) refl

-- all names, each told by the same source, one after another
pub names_told : (first second third : FolderState) (stops routes : NamePairs) (lines : LineNames) → second.source ≡ first.source → third.source ≡ second.source
    → WhereTold first (λ contents. stops ≡ (names_of_files (held contents)).stops) → WhereTold second (λ contents. routes ≡ (names_of_files (held contents)).routes)
    → WhereTold third (λ contents. lines ≡ (names_of_files (held contents)).lines)
    → WhereTold first (λ contents. record { stops = stops; routes = routes; lines = lines } ≡ names_of_files (held contents))
names_told first second third stops routes lines same later s r l =
    let both : Contents → Type 0 = λ contents. (routes ≡ (names_of_files (held contents)).routes) × (lines ≡ (names_of_files (held contents)).lines) in
    let rest : WhereTold second both =
    told_both second third (λ contents. routes ≡ (names_of_files (held contents)).routes) (λ contents. lines ≡ (names_of_files (held contents)).lines) both later r l (λ contents a b. (a, b)) in
    told_both first second (λ contents. stops ≡ (names_of_files (held contents)).stops) both
    (λ contents. record { stops = stops; routes = routes; lines = lines } ≡ names_of_files (held contents)) same s rest
    (λ contents a b. rw (a, b.0, b.1) refl)
