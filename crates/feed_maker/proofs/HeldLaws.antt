-- The files that are made are the generated ones, and none is too long to be read.
use mathlib.Core.Path.{fun_ext}
use Rattle.std.proofs.Common.{◌≡◌, refl, ℕ, ◌≤◌, List, length, replicate, arith}
use Rattle.feed_files.specs.declared.names.FileName.{FileName}
use Rattle.feed_files.specs.declared.names.FileName.TheVariants as file
use Rattle.feed_files.specs.HeldFiles.{most_bytes}
use Rattle.folder_io.specs.declared.files.FileBytes.{FileBytes}
use Rattle.folder_io.specs.declared.files.FileBytes.TheVariants as kept
use Rattle.folder_io.specs.declared.files.TheConstants.{FILE_COUNT}
use Rattle.folder_io.specs.KeptFiles.{held_in, AreWithin}
use Rattle.feed_rows.specs.GeneratedFeed.{generated, calendar_file, areas_file, timeframes_file, fare_products_file, fare_leg_rules_file, fare_transfer_rules_file}
use Rattle.feed_maker.specs.MadeFiles.{with_trips, with_fares, made_files}
use Rattle.feed_maker.proofs.SizeLaws.{stops_size, stop_areas_size, routes_size, trips_size, stop_times_size}

-- each file that is made is the generated one
held_at : (seed lines : ℕ) (name : FileName) → held_in (made_files seed lines) name ≡ generated seed lines name
unfolding with_trips with_fares made_files
held_at seed lines file.Stops = refl
held_at seed lines file.Routes = refl
held_at seed lines file.Trips = refl
held_at seed lines file.StopTimes = refl
held_at seed lines file.Calendar = refl
held_at seed lines file.CalendarDates = refl
held_at seed lines file.Frequencies = refl
held_at seed lines file.Transfers = refl
held_at seed lines file.Areas = refl
held_at seed lines file.StopAreas = refl
held_at seed lines file.Networks = refl
held_at seed lines file.RouteNetworks = refl
held_at seed lines file.Timeframes = refl
held_at seed lines file.RiderCategories = refl
held_at seed lines file.FareMedia = refl
held_at seed lines file.FareProducts = refl
held_at seed lines file.FareLegRules = refl
held_at seed lines file.FareTransferRules = refl
held_at seed lines file.FareLegJoinRules = refl

held_made : (seed lines : ℕ) → held_in (made_files seed lines) ≡ generated seed lines
held_made seed lines = fun_ext (held_at seed lines)

-- the files that are put one after another are the generated ones
pub held_put : (seed lines : ℕ) (none trips all : List FileBytes) →
    none ≡ replicate FILE_COUNT kept.Absent → trips ≡ with_trips seed lines none → all ≡ with_fares trips →
    held_in all ≡ generated seed lines
unfolding made_files
held_put seed lines none trips all begins puts ends = rw (ends, puts, begins) (held_made seed lines)

-- the files that are alike in all generated feeds
calendar_size : length calendar_file ≤ most_bytes
unfolding calendar_file
calendar_size = omega arith

areas_size : length areas_file ≤ most_bytes
unfolding areas_file
areas_size = omega arith

timeframes_size : length timeframes_file ≤ most_bytes
unfolding timeframes_file
timeframes_size = omega arith

products_size : length fare_products_file ≤ most_bytes
unfolding fare_products_file
products_size = omega arith

leg_rules_size : length fare_leg_rules_file ≤ most_bytes
unfolding fare_leg_rules_file
leg_rules_size = omega arith

transfer_rules_size : length fare_transfer_rules_file ≤ most_bytes
unfolding fare_transfer_rules_file
transfer_rules_size = omega arith

-- no file that is made is too long to be read
pub within_made : (seed lines : ℕ) → lines ≤ 32 → AreWithin (made_files seed lines)
unfolding with_trips with_fares made_files
within_made seed lines few file.Stops = stops_size lines few
within_made seed lines few file.Routes = routes_size lines few
within_made seed lines few file.Trips = trips_size lines few
within_made seed lines few file.StopTimes = stop_times_size seed lines few
within_made seed lines few file.Calendar = calendar_size
within_made seed lines few file.CalendarDates = tt
within_made seed lines few file.Frequencies = tt
within_made seed lines few file.Transfers = tt
within_made seed lines few file.Areas = areas_size
within_made seed lines few file.StopAreas = stop_areas_size lines few
within_made seed lines few file.Networks = tt
within_made seed lines few file.RouteNetworks = tt
within_made seed lines few file.Timeframes = timeframes_size
within_made seed lines few file.RiderCategories = tt
within_made seed lines few file.FareMedia = tt
within_made seed lines few file.FareProducts = products_size
within_made seed lines few file.FareLegRules = leg_rules_size
within_made seed lines few file.FareTransferRules = transfer_rules_size
within_made seed lines few file.FareLegJoinRules = tt
