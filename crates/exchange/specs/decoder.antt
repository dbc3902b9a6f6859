pub mod Decoder
pub mod PrivateKey
pub mod Stopping
