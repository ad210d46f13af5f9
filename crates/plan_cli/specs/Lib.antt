pub mod ExitNumbers
