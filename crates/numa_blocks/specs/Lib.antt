pub mod Areas
pub mod Blocks
pub mod Settings
pub mod Touches
pub mod Tries
