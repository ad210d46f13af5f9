pub mod FileLaws
pub mod HeldCalls
pub mod JoinedFiles
pub mod LoadLaws
pub mod NamedLaws
pub mod ReadFiles
pub mod StrayLaws
