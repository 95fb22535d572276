pub mod Loads
pub mod Visited
