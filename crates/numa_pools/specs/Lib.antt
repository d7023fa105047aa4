pub mod Turns
pub mod Rounds
pub mod Pools
pub mod Moves
pub mod Resize
pub mod Kept
pub mod Shown
