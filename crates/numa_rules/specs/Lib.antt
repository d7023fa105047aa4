pub mod Both
pub mod Explained
pub mod Otherwise
pub mod Others
pub mod Pages
pub mod Reasons
