pub mod Held
pub mod Moving
pub mod Shares
pub mod Sums
