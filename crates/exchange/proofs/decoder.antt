pub mod Laws
pub mod Listing
pub mod Rotations
pub mod Totals
pub mod Stopping
