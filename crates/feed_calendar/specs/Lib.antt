pub mod CalendarRows
pub mod BuiltCalendar
