pub mod Listing
pub mod Residents
