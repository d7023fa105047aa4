pub mod Alone
pub mod Examples
pub mod FirstWord
pub mod Judging
pub mod Naming
pub mod Reading
pub mod Said
pub mod Standing
