pub mod Ghosts
pub mod Batches
pub mod LogRule
pub mod Boards
pub mod Shown
pub mod Kept
pub mod Spans
pub mod Submits
