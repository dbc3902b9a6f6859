pub mod Keeping
pub mod Promises
pub mod Session
pub mod Writes
