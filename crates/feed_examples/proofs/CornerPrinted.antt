-- What `check` prints where all counts differ, the lines of faults without a column, and what a least price is.
use Rattle.std.specs.Prelude.{◌≡◌, refl, [], ◌∷◌, ◌++◌, map, Some, None, ℤ, pos, ◌≤ℤ◌, List, codes}
use Rattle.std.specs.Fmt.{digits}
use Rattle.feed_files.specs.declared.names.FileName.TheVariants as file
use Rattle.feed_files.specs.declared.names.ColumnName.TheVariants as column
use Rattle.feed_files.specs.declared.faults.FaultKind.TheVariants as kind
use Rattle.feed_rows.specs.declared.journeys.Buyer.{Buyer}
use Rattle.feed_rows.specs.declared.journeys.Ride.{Ride}
use Rattle.feed_rows.specs.declared.fares.Choice.{Choice}
use Rattle.feed_rows.specs.FeedRows.{FeedRows}
use Rattle.commands.specs.CommandTexts.{refused_line, check_text}
use Rattle.feed_rows.specs.JourneyEntries.{rides_price}
use Rattle.feed_rows.specs.PriceTexts.{IsLeastPrice, price_text}
use Rattle.feed_rows.specs.FareSums.{transfer_kind, starts_chain, is_charged, amount_of}
use Rattle.feed_rows.specs.MoneyText.{money_text}
use Rattle.feed_rows.specs.EntryText.{leg_line, leg_lines, fare_lines}
use Rattle.feed_examples.specs.BaseFeed.{base}
use Rattle.feed_examples.proofs.WorkedEntries.{leg, paid}

-- six stops, no route, three trips, twelve stop times, four leg rules and one transfer rule
counts_in_order : check_text (record base { routes = []; stops = base.stops ++ base.stops; leg_rules = base.leg_rules ++ base.leg_rules; stop_times = base.stop_times ++ base.stop_times })
    ≡ codes "accepted" ++ 9 ∷ codes "6" ++ 9 ∷ codes "0" ++ 9 ∷ codes "3" ++ 9 ∷ codes "12" ++ 9 ∷ codes "4" ++ 9 ∷ codes "1" ++ 10 ∷ []
unfolding digits
counts_in_order = refl

-- a row without a column, and a column without a row
places_in_part : map refused_line
    (record { kind = kind.LongRow; file = file.Stops; row = 12; column = None }
    ∷ record { kind = kind.MissingColumn; file = file.CalendarDates; row = 0; column = Some column.ExceptionType } ∷ [])
    ≡ (codes "refused" ++ 9 ∷ codes "7" ++ 9 ∷ codes "LongRow" ++ 9 ∷ codes "stops.txt" ++ 9 ∷ codes "12" ++ 9 ∷ codes "-" ++ 10 ∷ [])
    ∷ (codes "refused" ++ 9 ∷ codes "5" ++ 9 ∷ codes "MissingColumn" ++ 9 ∷ codes "calendar_dates.txt" ++ 9 ∷ codes "0" ++ 9 ∷ codes "exception_type" ++ 10 ∷ [])
    ∷ []
unfolding digits
places_in_part = refl

-- what any choice pays is at least the least price
no_choice_pays_less : (feed : FeedRows) (rides : List Ride) (buyer : Buyer) (choice : Choice) (price : ℤ) → IsLeastPrice feed rides buyer choice price
    → (other : Choice) (sum : ℤ) → rides_price feed rides other buyer ≡ Some sum → price ≤ℤ sum
no_choice_pays_less feed rides buyer choice price h other sum paid = h.least other sum paid

-- and the choice pays it
choice_pays_it : (feed : FeedRows) (rides : List Ride) (buyer : Buyer) (choice : Choice) (price : ℤ) → IsLeastPrice feed rides buyer choice price
    → rides_price feed rides choice buyer ≡ Some price
choice_pays_it feed rides buyer choice price h = h.paid

-- the number of rides is printed as it is, whatever the number of legs
rides_are_told : price_text base 3 (paid (leg 0 0 ∷ []) []) (pos 250)
    ≡ (codes "price" ++ 9 ∷ codes "3" ++ 9 ∷ codes "2.50" ++ 9 ∷ codes "EUR" ++ 10 ∷ [])
    ++ codes "leg" ++ 9 ∷ codes "1" ++ 9 ∷ codes "buy" ++ 9 ∷ codes "1" ++ 9 ∷ codes "1" ++ 9 ∷ codes "single" ++ 9 ∷ 9 ∷ codes "2.50" ++ 10 ∷ []
unfolding digits price_text fare_lines leg_lines leg_line money_text is_charged starts_chain transfer_kind amount_of
rides_are_told = refl
