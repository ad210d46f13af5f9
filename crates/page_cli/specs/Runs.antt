-- What a run of the program comes to, and the number with which it ends.
use Rattle.std.specs.Prelude.{◌≡◌, ◌⊎◌, ℕ, List, Bool, true, false, Result, Ok, Err}
use Rattle.feed_files.specs.FaultCounts.{Stayed}
use Rattle.answer_page.specs.Explained.{Explains}
use Rattle.answer_page.specs.LineNames.{names_of_files}
use Rattle.answer_page.specs.declared.names.Names.{Names}
use Rattle.answer_page.specs.declared.showing.Shown.{Shown}
use Rattle.answer_page.specs.declared.showing.Shown.TheVariants as shown
use Rattle.feed_files.specs.HeldFiles.{held}
use Rattle.folder_io.specs.FileReading.{GivesUp}
use Rattle.folder_io.specs.FolderCalls.{FolderState, WhereTold}
use Rattle.folder_io.specs.SinkCalls.{SinkState}
use Rattle.folder_io.specs.SystemFolder.{system_folder_state, system_path, unread_folder}
use Rattle.folder_io.specs.SystemSink.{output_state, unwritten_output}
use Rattle.folder_io.specs.declared.reading.ReadError.{ReadError}
use Rattle.folder_io.specs.declared.reading.ReadError.TheVariants as error
use Rattle.plan_arguments.specs.Arguments.{number_without, path_in, words_in}
use Rattle.plan_arguments.specs.declared.arguments.ArgumentError.{ArgumentError}
use Rattle.page_cli.specs.declared.program.Ran.{Ran}
use Rattle.page_cli.specs.declared.text_input.TextInput.{TextInput}

-- whether the last read of standard input failed
abbrev pub input_failed : {R Reader : Type 0} → TextInput R Reader → Bool
input_failed input = input.failed

-- whether a failed call is why there is no result
abbrev pub is_fault : ReadError → Bool
is_fault error.ReadFault = true
is_fault error.NoMemory = false

abbrev pub is_read_fault : {X : Type 0} → Result X ReadError → Bool
is_read_fault (Ok x) = false
is_read_fault (Err error) = is_fault error

-- a text was read, and the names of the folder as it holds its files, where it tells that; no call of either failed, and what is
-- shown is that text with these names and words
pub record Shows (words : List (List ℕ)) (failed : Bool) (folder after : FolderState) (sink written : SinkState) (shown : Shown) : Type 0 where
  pub text : List ℕ
  pub names : Names
  pub input : failed ≡ false
  pub counts : Stayed folder.faults after.faults
  pub named : WhereTold folder (λ contents. names ≡ names_of_files (held contents))
  pub explains : Explains text words names sink written shown

-- why a read gave up: that of the text, and then the folder is untouched; or one of the folder
abbrev pub GaveUp : ReadError → Bool → FolderState → FolderState → Type 0
GaveUp error failed folder after =
    ((failed ≡ is_fault error) × (after ≡ folder)) ⊎ ((failed ≡ false) × GivesUp error folder after)

-- what a run came to, by whether the input failed, and by what the folder and the sink went through; where a read gave up, nothing
-- is written
abbrev pub Comes : List (List ℕ) → Bool → FolderState → FolderState → SinkState → SinkState → Result Shown ReadError → Type 0
Comes words failed folder after sink written (Ok shown) = Shows words failed folder after sink written shown
Comes words failed folder after sink written (Err error) = GaveUp error failed folder after × (written ≡ sink)

-- the number after showing a text
abbrev pub shown_number : Shown → ℕ
shown_number shown.Whole = 0
shown_number (shown.Refused line) = 3
shown_number shown.WriteFault = 5
shown_number shown.NoMemory = 6

-- the same, or that of why none is shown
abbrev pub came_number : Result Shown ReadError → ℕ
came_number (Ok shown) = shown_number shown
came_number (Err error.ReadFault) = 4
came_number (Err error.NoMemory) = 6

module _ {R Reader File Dir : Type 0} where
  -- the run is one of the words among these arguments, with its cause in what the input, the folder of their path and the output
  -- went through: no call of any failed before
  pub record IsRunOf (arguments : List (List ℕ)) (ran : Ran R Reader File Dir) : Type 0 where
    pub path : system_path ran.folder ≡ path_in arguments
    pub comes : Comes (words_in arguments) (input_failed ran.input) (unread_folder (path_in arguments)) (system_folder_state ran.folder)
        unwritten_output (output_state ran.output) ran.came

  -- the same of some arguments
  abbrev pub IsRun : Ran R Reader File Dir → Type 0
  IsRun ran = (arguments : List (List ℕ)) × IsRunOf arguments ran

  -- the number of a run, or of why there is none
  abbrev pub exit_number : Result (Ran R Reader File Dir) ArgumentError → ℕ
  exit_number (Ok ran) = came_number ran.came
  exit_number (Err error) = number_without error
