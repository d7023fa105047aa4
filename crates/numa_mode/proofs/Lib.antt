pub mod Words
pub mod Subsets
pub mod Equality
pub mod Local
pub mod TextRoom
mod Examples
pub mod Single
