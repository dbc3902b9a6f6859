pub mod Judged
pub mod Keys
pub mod Promises
pub mod Rows
pub mod TwoBytes
pub mod Writing
