pub mod TimetableLaws
