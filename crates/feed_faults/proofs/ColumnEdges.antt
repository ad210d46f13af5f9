-- Each column of each file: whether it must be there, which of some texts its fields take, and the fault of the others. The texts
-- are the least and the greatest that some column takes, and those just past them.
use Rattle.std.proofs.Common.{◌≡◌, ℕ, List, [], ◌∷◌, refl}
use Rattle.std.specs.Prelude.{codes, map, filter}
use Rattle.feed_files.specs.declared.names.FileName.{FileName}
use Rattle.feed_files.specs.declared.names.FileName.TheVariants as file
use Rattle.feed_files.specs.declared.names.ColumnName.{ColumnName}
use Rattle.feed_files.specs.declared.names.ColumnName.TheVariants as column
use Rattle.feed_files.specs.declared.faults.FaultKind.{FaultKind}
use Rattle.feed_files.specs.declared.faults.FaultKind.TheVariants as kind
use Rattle.feed_faults.specs.declared.columns.EmptyField.{EmptyField}
use Rattle.feed_faults.specs.declared.columns.EmptyField.TheVariants as empty
use Rattle.feed_faults.specs.FileColumns.{columns_of, fits, misfit}
use Rattle.feed_faults.specs.OnLiterals.{grammars_on_literals}

-- the texts that are tried
abbrev texts : List (List ℕ)
texts =
    codes "-2" ∷ codes "-1" ∷ codes "0" ∷ codes "1" ∷ codes "2" ∷ codes "3" ∷ codes "4" ∷ codes "5" ∷ codes "6"
    ∷ codes "2147483647" ∷ codes "2147483648" ∷ codes "24:00:00" ∷ codes "24:00:01" ∷ codes "167:59:59" ∷ codes "168:00:00"
    ∷ codes "20250602" ∷ codes "20250631" ∷ codes "EUR" ∷ codes "CLF" ∷ codes "0.01" ∷ codes "0.001" ∷ (65 ∷ 9 ∷ 65 ∷ []) ∷ []

-- the texts that a field takes, in a row whose currency is the euro, and the fault of the others
abbrev Field : Type 0
Field = List (List ℕ) × FaultKind

-- what is said of a file's columns, in the order in which they are judged
abbrev judged : FileName → List (ColumnName × EmptyField × Field)
judged name = map (λ c. (c.name, c.empty, (filter (fits c.grammar (codes "EUR")) texts, misfit c.grammar))) (columns_of name)

abbrev any_id : Field
any_id = (
  codes "-2" ∷ codes "-1" ∷ codes "0" ∷ codes "1" ∷ codes "2" ∷ codes "3" ∷ codes "4" ∷ codes "5"
      ∷ codes "6" ∷ codes "2147483647" ∷ codes "2147483648" ∷ codes "24:00:00" ∷ codes "24:00:01"
      ∷ codes "167:59:59" ∷ codes "168:00:00" ∷ codes "20250602" ∷ codes "20250631" ∷ codes "EUR" ∷ codes "CLF"
      ∷ codes "0.01" ∷ codes "0.001" ∷ [],
  kind.BadText,
)

abbrev to_one : Field
to_one = (codes "0" ∷ codes "1" ∷ [], kind.BadNumber)

abbrev to_two : Field
to_two = (codes "0" ∷ codes "1" ∷ codes "2" ∷ [], kind.BadNumber)

abbrev to_three : Field
to_three = (codes "0" ∷ codes "1" ∷ codes "2" ∷ codes "3" ∷ [], kind.BadNumber)

abbrev to_four : Field
to_four = (codes "0" ∷ codes "1" ∷ codes "2" ∷ codes "3" ∷ codes "4" ∷ [], kind.BadNumber)

abbrev to_five : Field
to_five = (codes "0" ∷ codes "1" ∷ codes "2" ∷ codes "3" ∷ codes "4" ∷ codes "5" ∷ [], kind.BadNumber)

abbrev one_or_two : Field
one_or_two = (codes "1" ∷ codes "2" ∷ [], kind.BadNumber)

abbrev from_zero : Field
from_zero = (
  codes "0" ∷ codes "1" ∷ codes "2" ∷ codes "3" ∷ codes "4" ∷ codes "5" ∷ codes "6" ∷ codes "2147483647"
      ∷ codes "20250602" ∷ codes "20250631" ∷ [],
  kind.BadNumber,
)

abbrev from_one : Field
from_one = (
  codes "1" ∷ codes "2" ∷ codes "3" ∷ codes "4" ∷ codes "5" ∷ codes "6" ∷ codes "2147483647"
      ∷ codes "20250602" ∷ codes "20250631" ∷ [],
  kind.BadNumber,
)

abbrev counts : Field
counts = (
  codes "-1" ∷ codes "1" ∷ codes "2" ∷ codes "3" ∷ codes "4" ∷ codes "5" ∷ codes "6" ∷ codes "2147483647"
      ∷ codes "20250602" ∷ codes "20250631" ∷ [],
  kind.BadNumber,
)

abbrev times : Field
times = (codes "24:00:00" ∷ codes "24:00:01" ∷ codes "167:59:59" ∷ [], kind.BadTime)

abbrev times_of_day : Field
times_of_day = (codes "24:00:00" ∷ [], kind.BadTime)

abbrev dates : Field
dates = (codes "20250602" ∷ [], kind.BadDate)

abbrev currencies : Field
currencies = (codes "EUR" ∷ [], kind.BadCurrency)

abbrev amounts : Field
amounts = (
  codes "-2" ∷ codes "-1" ∷ codes "0" ∷ codes "1" ∷ codes "2" ∷ codes "3" ∷ codes "4" ∷ codes "5"
      ∷ codes "6" ∷ codes "2147483647" ∷ codes "2147483648" ∷ codes "20250602" ∷ codes "20250631"
      ∷ codes "0.01" ∷ [],
  kind.BadAmount,
)

stops : judged file.Stops
    ≡ (column.StopId, empty.Fault, any_id) ∷ (column.LocationType, empty.Fine, to_four)
    ∷ (column.ParentStation, empty.Fine, any_id) ∷ []
unfolding grammars_on_literals
stops = refl

routes : judged file.Routes
    ≡ (column.RouteId, empty.Fault, any_id) ∷ (column.NetworkId, empty.Fine, any_id) ∷ []
unfolding grammars_on_literals
routes = refl

trips : judged file.Trips
    ≡ (column.RouteId, empty.Fault, any_id) ∷ (column.ServiceId, empty.Fault, any_id)
    ∷ (column.TripId, empty.Fault, any_id) ∷ []
unfolding grammars_on_literals
trips = refl

stop_times : judged file.StopTimes
    ≡ (column.TripId, empty.Fault, any_id) ∷ (column.StopId, empty.FaultOrFlex, any_id)
    ∷ (column.StopSequence, empty.Fault, from_zero) ∷ (column.ArrivalTime, empty.Fine, times)
    ∷ (column.DepartureTime, empty.Fine, times) ∷ (column.PickupType, empty.Fine, to_three)
    ∷ (column.DropOffType, empty.Fine, to_three) ∷ []
unfolding grammars_on_literals
stop_times = refl

calendar : judged file.Calendar
    ≡ (column.ServiceId, empty.Fault, any_id) ∷ (column.Monday, empty.Fault, to_one)
    ∷ (column.Tuesday, empty.Fault, to_one) ∷ (column.Wednesday, empty.Fault, to_one)
    ∷ (column.Thursday, empty.Fault, to_one) ∷ (column.Friday, empty.Fault, to_one)
    ∷ (column.Saturday, empty.Fault, to_one) ∷ (column.Sunday, empty.Fault, to_one)
    ∷ (column.StartDate, empty.Fault, dates) ∷ (column.EndDate, empty.Fault, dates) ∷ []
unfolding grammars_on_literals
calendar = refl

calendar_dates : judged file.CalendarDates
    ≡ (column.ServiceId, empty.Fault, any_id) ∷ (column.Date, empty.Fault, dates)
    ∷ (column.ExceptionType, empty.Fault, one_or_two) ∷ []
unfolding grammars_on_literals
calendar_dates = refl

frequencies : judged file.Frequencies
    ≡ (column.TripId, empty.Fault, any_id) ∷ (column.StartTime, empty.Fault, times)
    ∷ (column.EndTime, empty.Fault, times) ∷ (column.HeadwaySecs, empty.Fault, from_one)
    ∷ (column.ExactTimes, empty.Fine, to_one) ∷ []
unfolding grammars_on_literals
frequencies = refl

transfers : judged file.Transfers
    ≡ (column.TransferType, empty.Fine, to_five) ∷ (column.FromStopId, empty.Fault, any_id)
    ∷ (column.ToStopId, empty.Fault, any_id) ∷ (column.MinTransferTime, empty.Fine, from_zero) ∷ []
unfolding grammars_on_literals
transfers = refl

areas : judged file.Areas
    ≡ (column.AreaId, empty.Fault, any_id) ∷ []
unfolding grammars_on_literals
areas = refl

stop_areas : judged file.StopAreas
    ≡ (column.AreaId, empty.Fault, any_id) ∷ (column.StopId, empty.Fault, any_id) ∷ []
unfolding grammars_on_literals
stop_areas = refl

networks : judged file.Networks
    ≡ (column.NetworkId, empty.Fault, any_id) ∷ []
unfolding grammars_on_literals
networks = refl

route_networks : judged file.RouteNetworks
    ≡ (column.NetworkId, empty.Fault, any_id) ∷ (column.RouteId, empty.Fault, any_id) ∷ []
unfolding grammars_on_literals
route_networks = refl

timeframes : judged file.Timeframes
    ≡ (column.TimeframeGroupId, empty.Fault, any_id) ∷ (column.StartTime, empty.Fine, times_of_day)
    ∷ (column.EndTime, empty.Fine, times_of_day) ∷ (column.ServiceId, empty.Fault, any_id) ∷ []
unfolding grammars_on_literals
timeframes = refl

rider_categories : judged file.RiderCategories
    ≡ (column.RiderCategoryId, empty.Fault, any_id) ∷ (column.IsDefaultFareCategory, empty.Fine, to_one) ∷ []
unfolding grammars_on_literals
rider_categories = refl

fare_media : judged file.FareMedia
    ≡ (column.FareMediaId, empty.Fault, any_id) ∷ (column.FareMediaType, empty.Fine, to_four) ∷ []
unfolding grammars_on_literals
fare_media = refl

fare_products : judged file.FareProducts
    ≡ (column.FareProductId, empty.Fault, any_id) ∷ (column.RiderCategoryId, empty.Fine, any_id)
    ∷ (column.FareMediaId, empty.Fine, any_id) ∷ (column.Currency, empty.Fault, currencies)
    ∷ (column.Amount, empty.Fault, amounts) ∷ []
unfolding grammars_on_literals
fare_products = refl

fare_leg_rules : judged file.FareLegRules
    ≡ (column.LegGroupId, empty.Fine, any_id) ∷ (column.NetworkId, empty.Fine, any_id)
    ∷ (column.FromAreaId, empty.Fine, any_id) ∷ (column.ToAreaId, empty.Fine, any_id)
    ∷ (column.FromTimeframeGroupId, empty.Fine, any_id) ∷ (column.ToTimeframeGroupId, empty.Fine, any_id)
    ∷ (column.FareProductId, empty.Fault, any_id) ∷ (column.RulePriority, empty.Fine, from_zero) ∷ []
unfolding grammars_on_literals
fare_leg_rules = refl

fare_transfer_rules : judged file.FareTransferRules
    ≡ (column.FromLegGroupId, empty.Fine, any_id) ∷ (column.ToLegGroupId, empty.Fine, any_id)
    ∷ (column.TransferCount, empty.Fine, counts) ∷ (column.DurationLimit, empty.Fine, from_one)
    ∷ (column.DurationLimitType, empty.Fine, to_three) ∷ (column.FareTransferType, empty.Fault, to_two)
    ∷ (column.FareProductId, empty.Fine, any_id) ∷ []
unfolding grammars_on_literals
fare_transfer_rules = refl

fare_leg_join_rules : judged file.FareLegJoinRules
    ≡ (column.FromNetworkId, empty.Fault, any_id) ∷ (column.ToNetworkId, empty.Fault, any_id)
    ∷ (column.FromStopId, empty.Fine, any_id) ∷ (column.ToStopId, empty.Fine, any_id) ∷ []
unfolding grammars_on_literals
fare_leg_join_rules = refl
