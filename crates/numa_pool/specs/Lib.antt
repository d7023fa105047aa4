pub mod Frames
pub mod Steps
pub mod Rule
pub mod Order
pub mod Walk
pub mod Search
pub mod Seats
pub mod Seated
