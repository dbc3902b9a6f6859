pub mod Packing
pub mod Promises
pub mod inner
