pub mod Homes
pub mod Obeying
pub mod Standing
pub mod Summed
pub mod TopDown
