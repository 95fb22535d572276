pub mod Turns
pub mod Shading
pub mod Resting
pub mod Marking
pub mod Markers
