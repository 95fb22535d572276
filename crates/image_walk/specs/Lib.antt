pub mod Words
pub mod Finding
pub mod Spans
pub mod Sorts
pub mod NextCell
pub mod Naming
pub mod TablePairs
