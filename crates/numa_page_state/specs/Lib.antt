pub mod Huge
pub mod Lying
pub mod Outcomes
pub mod Pooling
pub mod Sending
pub mod Standing
pub mod Strict
pub mod Touching
