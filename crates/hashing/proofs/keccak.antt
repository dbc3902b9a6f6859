pub mod Inverting
pub mod Laws
pub mod Registers
pub mod Walking
