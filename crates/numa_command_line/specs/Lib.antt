pub mod Asked
pub mod Grammar
pub mod Jobs
pub mod Usage
pub mod Values
