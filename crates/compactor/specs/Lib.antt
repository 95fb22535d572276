pub mod Tables
pub mod Model
pub mod Copying
pub mod Sliding
pub mod Young
pub mod Compacted
