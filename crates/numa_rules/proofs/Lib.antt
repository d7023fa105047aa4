pub mod Alike
pub mod Left
pub mod Ranges
pub mod Reasoning
pub mod Spans
pub mod Tasks
