pub mod CauseLaws
pub mod MadeLaws
