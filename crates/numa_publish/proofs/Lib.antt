pub mod Lists
pub mod Logs
pub mod Adding
pub mod Desks
pub mod Low
