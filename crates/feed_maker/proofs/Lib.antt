pub mod DrawLaws
pub mod FileLaws
pub mod SizeLaws
pub mod HeldLaws
