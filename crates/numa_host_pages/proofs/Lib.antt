pub mod Alone
pub mod Along
pub mod Arrived
pub mod Both
pub mod Copied
pub mod Known
pub mod Obeyed
pub mod Ordered
pub mod Places
mod Rows
pub mod Small
mod SummedRows
pub mod Sums
pub mod Walked
