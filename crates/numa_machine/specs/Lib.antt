pub mod Machine
pub mod Rules
pub mod Faults
pub mod Weights
pub mod Sizes
pub mod Sound
