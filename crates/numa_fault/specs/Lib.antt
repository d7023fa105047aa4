pub mod Worker
pub mod Fault
pub mod Span
pub mod Migration
pub mod Crew
pub mod Turns
pub mod Told
