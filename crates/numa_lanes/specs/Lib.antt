pub mod Spans
pub mod Turns
