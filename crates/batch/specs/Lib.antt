pub mod Promises
pub mod Reading
pub mod Report
pub mod Stops
pub mod Sums
pub mod Triples
pub mod inner
