pub mod Judged
pub mod Keys
pub mod Positions
pub mod Same
