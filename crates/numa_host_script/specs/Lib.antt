pub mod Acting
pub mod Hosts
pub mod Judged
pub mod Paging
pub mod Pooling
pub mod Sessions
pub mod Standing
pub mod Taking
