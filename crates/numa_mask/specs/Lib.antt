pub mod Lists
pub mod NodeSet
pub mod Parts
pub mod Words
