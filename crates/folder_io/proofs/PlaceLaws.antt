-- The places of a feed's files.
use Rattle.std.proofs.Common.{◌≡◌, refl, ◌<◌, get_or, arith}
use Rattle.feed_files.specs.Names.{all_files, place}
use Rattle.feed_files.specs.declared.names.FileName.{FileName}
use Rattle.feed_files.specs.declared.names.FileName.TheVariants as file
use Rattle.folder_io.specs.declared.files.TheConstants.{FILE_COUNT}

-- each file stands in its place
pub named : (name d : FileName) → get_or all_files (place name) d ≡ name
named file.Stops d = refl
named file.Routes d = refl
named file.Trips d = refl
named file.StopTimes d = refl
named file.Calendar d = refl
named file.CalendarDates d = refl
named file.Frequencies d = refl
named file.Transfers d = refl
named file.Areas d = refl
named file.StopAreas d = refl
named file.Networks d = refl
named file.RouteNetworks d = refl
named file.Timeframes d = refl
named file.RiderCategories d = refl
named file.FareMedia d = refl
named file.FareProducts d = refl
named file.FareLegRules d = refl
named file.FareTransferRules d = refl
named file.FareLegJoinRules d = refl

pub inside : (name : FileName) → place name < FILE_COUNT
inside file.Stops = omega arith
inside file.Routes = omega arith
inside file.Trips = omega arith
inside file.StopTimes = omega arith
inside file.Calendar = omega arith
inside file.CalendarDates = omega arith
inside file.Frequencies = omega arith
inside file.Transfers = omega arith
inside file.Areas = omega arith
inside file.StopAreas = omega arith
inside file.Networks = omega arith
inside file.RouteNetworks = omega arith
inside file.Timeframes = omega arith
inside file.RiderCategories = omega arith
inside file.FareMedia = omega arith
inside file.FareProducts = omega arith
inside file.FareLegRules = omega arith
inside file.FareTransferRules = omega arith
inside file.FareLegJoinRules = omega arith
