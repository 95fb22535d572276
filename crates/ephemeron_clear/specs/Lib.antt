pub mod Marked
pub mod Clearing
