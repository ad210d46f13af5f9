pub mod LogLaws
pub mod PlaceLaws
pub mod FilesRead
pub mod WholeLaws
pub mod Utf8Laws
pub mod PiecesLaws
pub mod SinceLaws
