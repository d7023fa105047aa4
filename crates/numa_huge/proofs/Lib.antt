pub mod Astray
pub mod Bare
pub mod Changed
pub mod Flowing
pub mod Found
pub mod Keeping
pub mod Leaving
pub mod Left
pub mod Named
pub mod Own
pub mod Passing
pub mod Pooled
pub mod Sending
pub mod Sent
pub mod Sourcing
pub mod Touched
pub mod Where
mod Rows
