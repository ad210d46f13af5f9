-- The files of a generated feed as they are put, one after another.
use Rattle.std.specs.Prelude.{ℕ, List, replicate, slice_set}
use Rattle.feed_files.specs.Names.{place}
use Rattle.feed_files.specs.declared.names.FileName.{FileName}
use Rattle.feed_files.specs.declared.names.FileName.TheVariants as file
use Rattle.folder_io.specs.declared.files.FileBytes.{FileBytes}
use Rattle.folder_io.specs.declared.files.FileBytes.TheVariants as kept
use Rattle.folder_io.specs.declared.files.TheConstants.{FILE_COUNT}
use Rattle.feed_rows.specs.GeneratedFeed.{stops_file, routes_file, trips_file, stop_times_file, calendar_file, areas_file, stop_areas_file, timeframes_file, fare_products_file, fare_leg_rules_file, fare_transfer_rules_file}

-- the files with the text of one more
abbrev pub with_text : FileName → List ℕ → List FileBytes → List FileBytes
with_text name text files = slice_set files (place name) (kept.Bytes text)

-- the files with those of the square, its routes and their trips
unfoldable pub with_trips : ℕ → ℕ → List FileBytes → List FileBytes
with_trips seed lines files =
    with_text file.StopAreas (stop_areas_file lines)
    (with_text file.StopTimes (stop_times_file seed lines)
    (with_text file.Trips (trips_file lines)
    (with_text file.Routes (routes_file lines)
    (with_text file.Stops (stops_file lines) files))))

-- the files with the calendar and the rules of fares
unfoldable pub with_fares : List FileBytes → List FileBytes
with_fares files =
    with_text file.FareTransferRules fare_transfer_rules_file
    (with_text file.FareLegRules fare_leg_rules_file
    (with_text file.FareProducts fare_products_file
    (with_text file.Timeframes timeframes_file
    (with_text file.Areas areas_file
    (with_text file.Calendar calendar_file files)))))

-- the files of a generated feed
unfoldable pub made_files : ℕ → ℕ → List FileBytes
made_files seed lines = with_fares (with_trips seed lines (replicate FILE_COUNT kept.Absent))
