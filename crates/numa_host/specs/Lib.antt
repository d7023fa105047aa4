pub mod Groups
pub mod Processes
pub mod Causes
pub mod Standing
pub mod Inside
pub mod Following
pub mod Strangers
