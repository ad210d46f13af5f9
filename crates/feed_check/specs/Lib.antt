pub mod FolderCalls
pub mod LoadErrors
pub mod FilesBehind
