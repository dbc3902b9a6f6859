pub mod Bytes
pub mod Chain
pub mod Invertible
pub mod Levels
pub mod Polynomials
pub mod Promises
pub mod inner
