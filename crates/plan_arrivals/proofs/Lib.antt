pub mod CourseLaws
pub mod FreeLaws
