-- What a run of the program comes to, and the number with which it ends.
use Rattle.std.specs.Prelude.{◌≡◌, ℕ, List, Result, Ok, Err}
use Rattle.folder_io.specs.SystemFolder.{system_folder_state, system_path, unread_folder}
use Rattle.folder_io.specs.SystemSink.{output_state, unwritten_output}
use Rattle.command_answers.specs.Answers.{status_number}
use Rattle.plan_arguments.specs.Arguments.{number_without, path_in, words_in}
use Rattle.plan_arguments.specs.declared.arguments.ArgumentError.{ArgumentError}
use Rattle.plan_app.specs.Run.{Explains}
use Rattle.plan_cli.specs.declared.program.Ran.{Ran}

module _ {R File Dir : Type 0} where
  -- the answer is one to the words among these arguments, with its cause in what the folder of their path and the output went
  -- through: no call of either failed before
  pub record IsRunOf (arguments : List (List ℕ)) (ran : Ran R File Dir) : Type 0 where
    pub path : system_path ran.folder ≡ path_in arguments
    pub explains : Explains (words_in arguments) (unread_folder (path_in arguments)) (system_folder_state ran.folder)
        unwritten_output (output_state ran.output) ran.answer

  -- the same of some arguments
  abbrev pub IsRun : Ran R File Dir → Type 0
  IsRun ran = (arguments : List (List ℕ)) × IsRunOf arguments ran

  -- the number of the answer, or of why there is none
  abbrev pub exit_number : Result (Ran R File Dir) ArgumentError → ℕ
  exit_number (Ok ran) = status_number ran.answer
  exit_number (Err error) = number_without error
