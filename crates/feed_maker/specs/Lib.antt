pub mod Draws
pub mod FileTexts
pub mod MadeFiles
