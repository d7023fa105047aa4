pub mod Gaps
pub mod InCommon
pub mod Pushed
mod Rows
