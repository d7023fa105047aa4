pub mod NameLemmas
mod Hosting
mod Made
mod Placing
