pub mod ByteRows
pub mod Counting
pub mod Planes
pub mod Working
