pub mod Standing
pub mod Sharing
pub mod Rules
pub mod Copies
pub mod Spans
pub mod Follows
pub mod Recompiling
pub mod Windows
