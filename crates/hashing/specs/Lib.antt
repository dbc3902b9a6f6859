pub mod Answers
pub mod Keccak
pub mod Kmac
pub mod Lists
pub mod Promises
pub mod Refusals
pub mod Sponge
pub mod inner
