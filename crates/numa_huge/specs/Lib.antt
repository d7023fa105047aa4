pub mod Exact
pub mod Huge
pub mod Kept
pub mod Moves
pub mod Shared
pub mod Tallies
