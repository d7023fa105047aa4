pub mod LaneLemmas
pub mod CycleLemmas
pub mod EndLemmas
pub mod WithinLemmas
