pub mod Constants
pub mod Inverted
pub mod Parts
pub mod Running
