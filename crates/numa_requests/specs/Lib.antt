pub mod Errors
pub mod HostErrors
pub mod PageErrors
pub mod Limited
pub mod NodeCounts
