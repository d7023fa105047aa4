pub mod Policy
pub mod Flags
pub mod Within
