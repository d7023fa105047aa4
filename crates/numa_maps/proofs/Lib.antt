mod ByPage
mod Examples
mod Hexes
mod Lines
mod Listed
mod Lowest
mod Placed
