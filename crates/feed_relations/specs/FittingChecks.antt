-- What a check of the rows of a table needs of its file.
use Rattle.std.specs.Prelude.{◌≡◌}
use Rattle.feed_files.specs.declared.names.FileName.{FileName}
use Rattle.feed_files.specs.declared.names.FileName.TheVariants as file
use Rattle.feed_faults.specs.declared.checks.RowCheck.{RowCheck}
use Rattle.feed_faults.specs.declared.checks.RowCheck.TheVariants.{NewId, KnownParent, GoodParent, AtPlatform, TimedEnds, RisingTimes, OrderedDays, GoodTimeframe}
use Rattle.feed_faults.specs.RowChecks.{id_place}

-- a check fits its file: what is checked of stop times alone fits none that is kept as a table
abbrev pub Fits : FileName → RowCheck → Type 0
Fits name (NewId ids) = (id_place ids).0 ≡ name
Fits name KnownParent = name ≡ file.Stops
Fits name GoodParent = name ≡ file.Stops
Fits name AtPlatform = ⊥
Fits name TimedEnds = ⊥
Fits name RisingTimes = ⊥
Fits name OrderedDays = name ≡ file.Calendar
Fits name GoodTimeframe = name ≡ file.Timeframes
Fits name check = Unit {0}
