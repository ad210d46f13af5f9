-- Why a folder gives no feed, and which feed it gives.
use Rattle.std.specs.Prelude.{◌≡◌, None, Some, true}
use Rattle.feed_files.specs.FaultCounts.{Rose, Stayed}
use Rattle.feed_rows.specs.FeedRows.{FeedRows}
use Rattle.feed_files.specs.HeldFiles.{HeldFile}
use Rattle.feed_files.specs.declared.faults.FeedFault.{FeedFault}
use Rattle.feed_files.specs.declared.names.FileName.{FileName}
use Rattle.feed_faults.specs.AcceptedFeed.{feed_of}
use Rattle.folder_io.specs.FolderCalls.{FolderState}
use Rattle.folder_io.specs.declared.reading.ReadError.{ReadError}
use Rattle.folder_io.specs.declared.reading.ReadError.TheVariants as read
use Rattle.feed_text.specs.declared.errors.TextError.{TextError}
use Rattle.feed_text.specs.declared.errors.TextError.TheVariants as text
use Rattle.folder_io.specs.FileReading.{Gives, OpensAll, OpensSome}
use Rattle.feed_check.specs.declared.folder.LoadError.{LoadError}
use Rattle.feed_check.specs.declared.folder.LoadError.TheVariants as error
use Rattle.feed_faults.specs.FirstFault.{first_fault}

-- why nothing was loaded where the reading of files gave up, and where a file was refused
abbrev pub unread : ReadError → LoadError
unread read.ReadFault = error.ReadFault
unread read.NoMemory = error.NoMemory

abbrev pub refused : TextError → LoadError
refused (text.Fault fault) = error.Fault fault
refused text.NoMemory = error.NoMemory

-- the feed is that of the folder's files, which have no fault
pub record IsFeedOf (folder : FolderState) (feed : FeedRows) : Type 0 where
  pub files : FileName → HeldFile
  pub gives : Gives folder files
  pub accepted : first_fault files ≡ None
  pub is_feed : feed ≡ feed_of files

-- the fault is the first of the folder's files
pub record IsFaultOf (folder : FolderState) (fault : FeedFault) : Type 0 where
  pub files : FileName → HeldFile
  pub gives : Gives folder files
  pub is_first : first_fault files ≡ Some fault

-- a call of the folder failed, and it is the last one that was made
pub record FailsReading (folder later : FolderState) : Type 0 where
  pub counts : Rose folder.faults later.faults
  pub ended : later.failed ≡ true
  pub opens : OpensSome folder later

-- no call of the folder failed, and the reading went to some file
pub record StopsReading (folder later : FolderState) : Type 0 where
  pub counts : Stayed folder.faults later.faults
  pub opens : OpensSome folder later

-- why nothing was loaded: a call failed, or the fault is the first of the files, all of which were read, or want of memory
abbrev pub GivesUpLoading : LoadError → FolderState → FolderState → Type 0
GivesUpLoading error.ReadFault folder later = FailsReading folder later
GivesUpLoading (error.Fault fault) folder later = OpensAll folder later × IsFaultOf folder fault
GivesUpLoading error.NoMemory folder later = StopsReading folder later
