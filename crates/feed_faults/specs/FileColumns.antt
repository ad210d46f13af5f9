-- What each file is judged by: whether a feed needs it, its columns and the checks of its rows; and how a field of a column is
-- judged (Field Definitions). Every other column is passed over.
use Rattle.std.specs.Prelude.{ℕ, Bool, List, is_some}
use Rattle.feed_files.specs.declared.names.FileName.{FileName}
use Rattle.feed_files.specs.declared.names.FileName.TheVariants as file
use Rattle.feed_files.specs.declared.faults.FaultKind.{FaultKind}
use Rattle.feed_files.specs.declared.faults.FaultKind.TheVariants as kind
use Rattle.feed_faults.specs.declared.columns.Grammar.{Grammar}
use Rattle.feed_faults.specs.declared.columns.Grammar.TheVariants as grammar
use Rattle.feed_faults.specs.declared.columns.ColumnRule.{ColumnRule}
use Rattle.feed_faults.specs.declared.checks.RowRule.{RowRule}
use Rattle.feed_faults.specs.declared.files.TheConstants.{STOPS, ROUTES, TRIPS, STOP_TIMES, CALENDAR, CALENDAR_DATES, FREQUENCIES, TRANSFERS, AREAS, STOP_AREAS, NETWORKS, ROUTE_NETWORKS, TIMEFRAMES, RIDER_CATEGORIES, FARE_MEDIA, FARE_PRODUCTS, FARE_LEG_RULES, FARE_TRANSFER_RULES, FARE_LEG_JOIN_RULES}
use Rattle.feed_rows.specs.TimeGrammar.{time_value}
use Rattle.feed_faults.specs.FieldGrammars.{is_id, int_value, count_value, date_value, currency_decimals, amount_in}

-- what a file is judged by: whether a feed needs it, whatever else it holds (Dataset Files; the fare files are of the profile),
-- its columns, in the order in which they are judged, and the checks of its rows, in theirs
abbrev pub rule_of : FileName → Bool × List ColumnRule × List RowRule
rule_of file.Stops = (STOPS.0, STOPS.1.now, STOPS.2.now)
rule_of file.Routes = (ROUTES.0, ROUTES.1.now, ROUTES.2.now)
rule_of file.Trips = (TRIPS.0, TRIPS.1.now, TRIPS.2.now)
rule_of file.StopTimes = (STOP_TIMES.0, STOP_TIMES.1.now, STOP_TIMES.2.now)
rule_of file.Calendar = (CALENDAR.0, CALENDAR.1.now, CALENDAR.2.now)
rule_of file.CalendarDates = (CALENDAR_DATES.0, CALENDAR_DATES.1.now, CALENDAR_DATES.2.now)
rule_of file.Frequencies = (FREQUENCIES.0, FREQUENCIES.1.now, FREQUENCIES.2.now)
rule_of file.Transfers = (TRANSFERS.0, TRANSFERS.1.now, TRANSFERS.2.now)
rule_of file.Areas = (AREAS.0, AREAS.1.now, AREAS.2.now)
rule_of file.StopAreas = (STOP_AREAS.0, STOP_AREAS.1.now, STOP_AREAS.2.now)
rule_of file.Networks = (NETWORKS.0, NETWORKS.1.now, NETWORKS.2.now)
rule_of file.RouteNetworks = (ROUTE_NETWORKS.0, ROUTE_NETWORKS.1.now, ROUTE_NETWORKS.2.now)
rule_of file.Timeframes = (TIMEFRAMES.0, TIMEFRAMES.1.now, TIMEFRAMES.2.now)
rule_of file.RiderCategories = (RIDER_CATEGORIES.0, RIDER_CATEGORIES.1.now, RIDER_CATEGORIES.2.now)
rule_of file.FareMedia = (FARE_MEDIA.0, FARE_MEDIA.1.now, FARE_MEDIA.2.now)
rule_of file.FareProducts = (FARE_PRODUCTS.0, FARE_PRODUCTS.1.now, FARE_PRODUCTS.2.now)
rule_of file.FareLegRules = (FARE_LEG_RULES.0, FARE_LEG_RULES.1.now, FARE_LEG_RULES.2.now)
rule_of file.FareTransferRules = (FARE_TRANSFER_RULES.0, FARE_TRANSFER_RULES.1.now, FARE_TRANSFER_RULES.2.now)
rule_of file.FareLegJoinRules = (FARE_LEG_JOIN_RULES.0, FARE_LEG_JOIN_RULES.1.now, FARE_LEG_JOIN_RULES.2.now)

abbrev pub is_always_needed : FileName → Bool
is_always_needed file = (rule_of file).0

abbrev pub columns_of : FileName → List ColumnRule
columns_of file = (rule_of file).1

abbrev pub checks_of : FileName → List RowRule
checks_of file = (rule_of file).2

-- a field is of the grammar; an amount goes by the currency of its row
abbrev pub fits : Grammar → List ℕ → List ℕ → Bool
fits grammar.Id row_currency text = is_id text
fits (grammar.Int least most) row_currency text = is_some (int_value least most text)
fits grammar.Count row_currency text = is_some (count_value text)
fits (grammar.Time most) row_currency text = is_some (time_value most text)
fits grammar.Date row_currency text = is_some (date_value text)
fits grammar.Currency row_currency text = is_some (currency_decimals text)
fits grammar.Amount row_currency text = is_some (amount_in row_currency text)

-- the fault of a field that isn't of the grammar
abbrev pub misfit : Grammar → FaultKind
misfit grammar.Id = kind.BadText
misfit (grammar.Int least most) = kind.BadNumber
misfit grammar.Count = kind.BadNumber
misfit (grammar.Time most) = kind.BadTime
misfit grammar.Date = kind.BadDate
misfit grammar.Currency = kind.BadCurrency
misfit grammar.Amount = kind.BadAmount
