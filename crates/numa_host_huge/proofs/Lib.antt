pub mod Acted
pub mod Boxed
pub mod Changed
pub mod Copied
pub mod Ended
pub mod Given
pub mod Lent
pub mod Made
pub mod Places
pub mod Prepared
mod Rows
pub mod Sized
pub mod Sums
