pub mod Marked
pub mod Pairs
pub mod Model
pub mod Progress
