pub mod Changes
pub mod Listing
pub mod PoolCalls
pub mod Sizes
pub mod Trials
