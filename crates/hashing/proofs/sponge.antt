pub mod Absorbing
pub mod Finishing
pub mod Squeezing
