pub mod Even
pub mod Held
pub mod Ones
pub mod Rows
pub mod Sizes
pub mod Upper
pub mod Wide
pub mod Windows
