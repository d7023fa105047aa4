pub mod Spots
pub mod Same
pub mod Exact
pub mod Objects
pub mod Changes
pub mod Counting
pub mod Inside
