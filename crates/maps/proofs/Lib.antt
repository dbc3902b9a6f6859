pub mod Acceptance
pub mod Equal
pub mod FromExchange
pub mod Judged
pub mod Keeping
pub mod Promises
pub mod Session
pub mod Written
