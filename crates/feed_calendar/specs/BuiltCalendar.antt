-- What holds of the calendar that was built from a feed.
use Rattle.std.specs.Prelude.{◌≡◌, ℤ}
use Rattle.std.specs.List.{list_any}
use Rattle.std.specs.List.Sorted.{IsPermutation}
use Rattle.transit_base.specs.declared.numbers.ServiceId.{ServiceId}
use Rattle.feed_rows.specs.FeedRows.{FeedRows}
use Rattle.feed_rows.specs.ServiceDays.{covers, is_covered}
use Rattle.feed_rows.specs.SoundTimetable.{AreSoundExceptions}
use Rattle.feed_calendar.specs.declared.Calendar.{Calendar}
use Rattle.feed_calendar.specs.CalendarRows.{rows_of_service, AreInOrder}

-- the calendar is that of this feed
pub record IsCalendarOf (feed : FeedRows) (calendar : Calendar) : Type 0 where
  pub rows : (service : ServiceId) (day : ℤ) → list_any (λ row. covers row day) (rows_of_service calendar.rows service.0) ≡ is_covered feed service day
  pub exceptions : IsPermutation feed.exceptions calendar.exceptions.items
  pub in_order : AreInOrder calendar.exceptions.items
  pub sound : AreSoundExceptions feed
